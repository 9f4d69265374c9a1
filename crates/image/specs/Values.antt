-- The value of a word of an image, and that recovery keeps it: after any number of steps, and after any number of cuts.
use Rattle.std.specs.Prelude.{◌≡◌, Bool, not, cond, ◌||◌, List, [], ◌∷◌, leb, ltb, get_or}
use Rattle.std.proofs.Math.Path.{refl, sym}
use Rattle.std.proofs.Common.{ap, ◌∙◌}
use Rattle.std.proofs.Math.Bool.{true, false}
use Prim.Native.Nat.{ℕ, zero, suc, ◌+◌, ◌/◌, ◌<◌, ◌≤◌, ◌^◌}
use native.Mathlib.Omega.{arith}
use Rattle.std.proofs.Math.Dec.{eqb}
use borrow.Author.Tests.{eq-eqb, ne_eqb, eqb-true, eqb-false, leb-false, ltb-true, ltb-false}
use Rattle.word.specs.declared.Sort.{Sort}
use Rattle.word.specs.declared.Sort.TheVariants.{Plain, Pointer, Neither}
use Rattle.word.specs.declared.Outcome.TheVariants.{Succeeded, Failed}
use Rattle.word.specs.declared.Status.{Status}
use Rattle.word.specs.declared.Status.TheVariants.{Free, Undecided, Decided, Bad}
use Rattle.word.specs.Word.{word_number}
use Rattle.word.specs.Status.{status_number}
use Rattle.steps.specs.declared.Entry.{Entry}
use Rattle.steps.specs.declared.RecoveryPlace.{RecoveryPlace}
use Rattle.steps.specs.declared.RecoveryPlace.TheVariants.{Outside, At}
use Rattle.steps.specs.Plan.{is_free, points_to, outcome_of, left_value}
use Rattle.memory.specs.Fresh.{within}
use Rattle.memory.specs.Value.{entry_value}
use Rattle.little.specs.Laws.{byte_before, byte_after}
use Rattle.image.specs.Layout.{word_place, word_of, with_word, descriptor_place, part_of, status_in, count_in, entry_in, with_status}
use Rattle.image.specs.Check.{some_below, bad_entry, bad_at, bad_body, has_address, bad_target, bad_pointer, bad_pointer_at, image_refusal}
use Rattle.image.specs.CheckLaws.{or_left, or_right, none_below, accepted, sizes_small}
use Rattle.image.specs.LayoutLaws.{word_stored, word_other, part_word, word_status, part_status}
use Rattle.image.specs.PlanLaws.{Past, plan_cases}
use Rattle.image.specs.Recover.{seen_in, performed_in, plan_in, image_after, place_then, run_from}
use Rattle.image.specs.Good.{Good, good, open_body, entry_good, entry_small, chosen_small}
use Rattle.image.specs.Stays.{Reached, Stands, begins, live, none_points, step_good, step_stands, stays_accepted}

-- of the first c entries in a descriptor's bytes, the one for address a: its desired if the status is Succeeded, dirty or not, else its expected (an accepted
-- image has one entry at most for an address); 0 where there is none
unfoldable pub value_among : List ℕ → ℕ → ℕ → ℕ
value_among p zero a = 0
value_among p (suc i) a = cond (eqb (entry_in p i).address a) (entry_value (status_in p) (entry_in p i)) (value_among p i a)

-- a plain word without its dirty bit; for a pointer to d, by d's entry for that address; a number that is neither is given the value 0
abbrev pub sort_value_in : ℕ → List ℕ → ℕ → Sort → ℕ
sort_value_in n x a (Plain v dirty) = v
sort_value_in n x a (Pointer d dirty) = value_among (part_of x n d) (count_in (part_of x n d)) a
sort_value_in n x a (Neither w) = 0

-- the value of the word at an address (document 01, "What the memory holds")
unfoldable pub value_in : ℕ → List ℕ → ℕ → ℕ
value_in n x a = sort_value_in n x a (word_of x a)

-- recovery cut after each of these allowances, and run again from descriptor 0 on what was left
abbrev pub runs : List ℕ → ℕ → ℕ → List ℕ → List ℕ
runs [] n k x = x
runs (s ∷ ss) n k x = runs ss n k (run_from s n k x (At 0 0)).bytes

-- the entry for its own address
value_left : (s : Status) (e : Entry) → entry_value s e ≡ left_value s e
value_left Free e = refl
value_left Undecided e = refl
value_left (Decided Succeeded dirty) e = refl
value_left (Decided Failed dirty) e = refl
value_left (Bad v) e = refl

module _ (n : ℕ) (p : List ℕ) (b : bad_body n p ≡ false) (f : is_free (status_in p) ≡ false) where
  next_above : (i : ℕ) → suc i < count_in p → (entry_in p i).address < (entry_in p (suc i)).address
  unfolding bad_at
  next_above i l =
      leb-false _ _
      (or_right (bad_entry n (entry_in p (suc i))) (leb (entry_in p (suc i)).address (entry_in p i).address)
      (none_below (λ j. bad_at n p j) (count_in p) (or_right (not (within (count_in p) 4)) (some_below (count_in p) (λ j. bad_at n p j)) (open_body n p b f)) (suc i) l))

  above : (j i : ℕ) → i < j → j < count_in p → (entry_in p i).address < (entry_in p j).address
  above zero i l m = absurd (omega arith)
  above (suc j) i l m = go (eqb i j) refl (λ h. above j i h (omega arith))
    where
      go : (t : Bool) → eqb i j ≡ t → (i < j → (entry_in p i).address < (entry_in p j).address) → (entry_in p i).address < (entry_in p (suc j)).address
      go true e rest = rw (eqb-true i j e) (next_above j m)
      go false e rest = let o : i ≡ j → ⊥ = eqb-false i j e in let q = rest (omega arith) in let s = next_above j m in omega arith

  among : (i c : ℕ) → i < c → c ≤ count_in p → value_among p c (entry_in p i).address ≡ left_value (status_in p) (entry_in p i)
  unfolding value_among
  among i zero l m = absurd (omega arith)
  among i (suc c) l m = go (eqb i c) refl (λ h. among i c h (omega arith))
    where
      go : (t : Bool) → eqb i c ≡ t → (i < c → value_among p c (entry_in p i).address ≡ left_value (status_in p) (entry_in p i))
          → value_among p (suc c) (entry_in p i).address ≡ left_value (status_in p) (entry_in p i)
      go true e rest = rw (eqb-true i c e, eq-eqb (entry_in p c).address (entry_in p c).address refl) (value_left (status_in p) (entry_in p c))
      go false e rest =
          let o : i ≡ c → ⊥ = eqb-false i c e in
          let q : i < c = omega arith in
          let s = above c i q (omega arith) in
          rw (ne_eqb (entry_in p c).address (entry_in p i).address (λ y. omega arith)) (rest q)

points_value : (n : ℕ) (x : List ℕ) (a d : ℕ) (w : Sort) → points_to w d ≡ true → sort_value_in n x a w ≡ value_among (part_of x n d) (count_in (part_of x n d)) a
points_value n x a d (Plain v dirty) e = let z : ◌≡◌ {A = ℕ} 0 1 = cc in absurd (omega arith)
points_value n x a d (Pointer c dirty) e = rw (eqb-true c d e)
points_value n x a d (Neither v) e = let z : ◌≡◌ {A = ℕ} 0 1 = cc in absurd (omega arith)

-- a value is what it was where the bytes of the descriptor pointed to are
pub value_same : (n k : ℕ) (x y : List ℕ) (b : ℕ) (w : Sort) → ((d : ℕ) → d < k → points_to w d ≡ true → part_of y n d ≡ part_of x n d) → bad_pointer n k x b w ≡ false
    → sort_value_in n y b w ≡ sort_value_in n x b w
unfolding bad_target
value_same n k x y b (Plain v dirty) f e = refl
value_same n k x y b (Neither v) f e = refl
value_same n k x y b (Pointer d dirty) f e =
    let l : d < k = leb-false k d (or_left (leb k d) (is_free (status_in (part_of x n d)) || not (has_address (part_of x n d) b)) e) in
    rw (f d l (eq-eqb d d refl))

-- what a step does to one word: it stores its value there, or leaves it, and then its value is left too
module _ (n k : ℕ) (x : List ℕ) (g : Good n k x) (d done : ℕ) (r : Reached n k x d done) (a : ℕ) (h : a < n) (P : List ℕ → Type 0)
    (store : points_to (word_of x a) d ≡ true → value_in n x a < 2 ^ 61 → P (with_word x a (Plain (value_in n x a) false)))
    (keep : (y : List ℕ) → word_of y a ≡ word_of x a → ((j : ℕ) → j < 8 → get_or y (word_place a + j) 0 ≡ get_or x (word_place a + j) 0) → value_in n y a ≡ value_in n x a → P y) where
  same : P x
  same = keep x refl (λ j l. refl) refl

  kept : (y : List ℕ) → word_of y a ≡ word_of x a → ((e : ℕ) → e < k → points_to (word_of x a) e ≡ true → part_of y n e ≡ part_of x n e) → value_in n y a ≡ value_in n x a
  unfolding value_in bad_pointer_at
  kept y w f = rw w (value_same n k x y a (word_of x a) f (g.pointers a h))

  put : (b v : ℕ) → b ≡ a → v ≡ value_in n x b → points_to (word_of x b) d ≡ true → v < 2 ^ 61 → P (with_word x b (Plain v false))
  put b v e f t l =
      let q : v ≡ value_in n x a = f ∙ ap (λ (c : ℕ). value_in n x c) e in
      let u : points_to (word_of x a) d ≡ true = rw e at t in
      rw (e, q) (store u (omega arith))

  other : (b v : ℕ) → b < n → (b ≡ a → ⊥) → P (with_word x b (Plain v false))
  other b v l o =
      let w = word_other n k x g.sized b l (Plain v false) a o in
      keep (with_word x b (Plain v false)) w (λ j m. go j m (ltb b a) refl) (kept (with_word x b (Plain v false)) w (λ e q f. part_word n k x g.sized b l (Plain v false) e q))
    where
      go : (j : ℕ) → j < 8 → (t : Bool) → ltb b a ≡ t → get_or (with_word x b (Plain v false)) (word_place a + j) 0 ≡ get_or x (word_place a + j) 0
      go j m true f = let i = ltb-true b a f in byte_after x (word_place b) (word_number (Plain v false)) (word_place a + j) (omega arith)
      go j m false f = let i = ltb-false b a f in byte_before x (word_place b) (word_number (Plain v false)) (word_place a + j) (omega arith)

  stored : (b v : ℕ) → b < n → v ≡ value_in n x b → points_to (word_of x b) d ≡ true → v < 2 ^ 61 → (t : Bool) → eqb b a ≡ t → P (with_word x b (Plain v false))
  stored b v m f u l true e = put b v (eqb-true b a e) f u l
  stored b v m f u l false e = other b v m (eqb-false b a e)

  freed : Past done (count_in (part_of x n d)) → P (with_status x n d Free)
  freed p =
      let w = word_status n k x g.sized d r.here Free a h in
      keep (with_status x n d Free) w (λ j m. byte_before x (descriptor_place n d) (status_number Free) (word_place a + j) (omega arith))
      (kept (with_status x n d Free) w
      (λ e q f. part_status n k x g.sized d r.here Free e q
      (λ s. let i = none_points n k x g d done r p a h in let j : points_to (word_of x a) d ≡ true = rw s f in let y : ◌≡◌ {A = ℕ} 0 1 = cc in omega arith)))

  entry-value : (i : ℕ) → i < count_in (part_of x n d) → is_free (status_in (part_of x n d)) ≡ false → points_to (word_of x (entry_in (part_of x n d) i).address) d ≡ true
      → left_value (status_in (part_of x n d)) (entry_in (part_of x n d) i) ≡ value_in n x (entry_in (part_of x n d) i).address
  unfolding value_in
  entry-value i l f t =
      let b = (entry_in (part_of x n d) i).address in
      sym (points_value n x b d (word_of x b) t ∙ among n (part_of x n d) (g.bodies d r.here) f i (count_in (part_of x n d)) l (omega arith))

  pub step_word : P (image_after n x d done)
  unfolding image_after plan_in seen_in
  step_word =
      plan_cases d done (seen_in x n d (done / 2)) (λ q. P (performed_in x n d q.effect))
      (λ e f. same)
      (λ l b z t.
      let f = live n k x g d done r (is_free (status_in (part_of x n d))) refl l b in
      let e = entry_small n (entry_in (part_of x n d) (done / 2)) (entry_good n (part_of x n d) (g.bodies d r.here) f (done / 2) b.1) in
      let v = chosen_small (outcome_of (status_in (part_of x n d))) (entry_in (part_of x n d) (done / 2)) e.1.0 e.1.1 in
      stored (entry_in (part_of x n d) (done / 2)).address (left_value (status_in (part_of x n d)) (entry_in (part_of x n d) (done / 2))) e.0 (entry-value (done / 2) b.1 f t) t v
      (eqb (entry_in (part_of x n d) (done / 2)).address a)
      refl)
      (λ l b z t. same)
      (λ l b z. same)
      (λ l p z. freed p)
      (λ l p z. same)

plain_value : (n k : ℕ) (x : List ℕ) → Good n k x → (a : ℕ) → a < n → (v : ℕ) → v < 2 ^ 61 → value_in n (with_word x a (Plain v false)) a ≡ v
unfolding value_in
plain_value n k x g a h v l = rw (word_stored n k x g.sized a h v l)

step_value : (n k : ℕ) (x : List ℕ) (d done : ℕ) → Good n k x → Reached n k x d done → (a : ℕ) → a < n → value_in n (image_after n x d done) a ≡ value_in n x a
step_value n k x d done g r a h =
    step_word n k x g d done r a h (λ y. value_in n y a ≡ value_in n x a) (λ t l. plain_value n k x g a h (value_in n x a) l) (λ y w b v. v)

run_value : (s n k : ℕ) (x : List ℕ) (p : RecoveryPlace) → Good n k x → Stands n k x p → (a : ℕ) → a < n → value_in n (run_from s n k x p).bytes a ≡ value_in n x a
unfolding run_from
run_value zero n k x p g r a h = refl
run_value (suc s) n k x Outside g r a h = refl
run_value (suc s) n k x (At d done) g r a h =
    run_value s n k (image_after n x d done) (place_then n k x d done) (step_good n k x d done g r) (step_stands n k x d done g r) a h ∙ step_value n k x d done g r a h

-- after any number of steps every word's value is what it was
pub value_kept : (n k : ℕ) (x : List ℕ) (s : ℕ) → image_refusal n k x ≡ 0 → (a : ℕ) → a < n → value_in n (run_from s n k x (At 0 0)).bytes a ≡ value_in n x a
value_kept n k x s e a h =
    let c = accepted n k x e in
    run_value s n k x (At 0 0) (good n k x c) (begins n k x 0 (sizes_small n k c.sizes).1.1.0) a h

-- and after any cuts; and the image is accepted
pub cuts_accepted : (n k : ℕ) (x : List ℕ) (ss : List ℕ) → image_refusal n k x ≡ 0 → image_refusal n k (runs ss n k x) ≡ 0
cuts_accepted n k x [] e = e
cuts_accepted n k x (s ∷ ss) e = cuts_accepted n k (run_from s n k x (At 0 0)).bytes ss (stays_accepted n k x s e)

pub cuts_keep_values : (n k : ℕ) (x : List ℕ) (ss : List ℕ) → image_refusal n k x ≡ 0 → (a : ℕ) → a < n → value_in n (runs ss n k x) a ≡ value_in n x a
cuts_keep_values n k x [] e a h = refl
cuts_keep_values n k x (s ∷ ss) e a h = cuts_keep_values n k (run_from s n k x (At 0 0)).bytes ss (stays_accepted n k x s e) a h ∙ value_kept n k x s e a h

-- An image that is not refused, number by number; what a value stored in a word and Free stored keep of it; its live descriptors' entries.
use Rattle.std.proofs.Math.Path.{◌≡◌, refl}
use Rattle.std.proofs.Common.{ap, ◌∙◌, arith, eq-eqb, eqb-true, leb-true, leb-false, ltb-true}
use Rattle.std.specs.Prelude.{Bool, false, not, ◌||◌, List, eqb, leb, ltb}
use Rattle.std.proofs.Math.Bool.{true}
use Prim.Native.Nat.{ℕ, zero, suc, ◌<◌, ◌≤◌, ◌^◌}
use Rattle.std.proofs.lemmas.Bool.{eqb-false, not-false}
use Rattle.word.specs.declared.Sort.{Sort}
use Rattle.word.specs.declared.Sort.TheVariants.{Plain, Pointer, Neither}
use Rattle.word.specs.declared.Outcome.{Outcome}
use Rattle.word.specs.declared.Outcome.TheVariants.{Succeeded, Failed}
use Rattle.word.specs.declared.Status.TheVariants.{Free}
use Rattle.steps.specs.declared.Entry.{Entry}
use Rattle.steps.specs.Plan.{is_free, points_to, chosen}
use Rattle.memory.specs.Fresh.{within}
use Rattle.events.specs.First.{and_first, and_second}
use Rattle.little.specs.Laws.{number_length}
use Rattle.image.specs.Layout.{Sized, word_of, with_word, part_of, status_in, count_in, entry_in, with_status}
use Rattle.image.specs.Check.{bad_sizes, some_below, is_bad, bad_status, bad_entry, bad_at, bad_body, is_neither, has_address, bad_target, bad_pointer, bad_pointer_at, image_refusal}
use Rattle.image.specs.CheckLaws.{or_left, or_right, none_below, below_all, Accepted, accepted_back, accepted_sized}
use Rattle.image.specs.LayoutLaws.{word_stored, word_other, part_word, status_freed, word_status, part_status}

-- what the checks 20 to 24 leave, number by number
pub record Good (n k : ℕ) (x : List ℕ) : Type 0 where
  pub sized : Sized n k x
  pub statuses : (d : ℕ) → d < k → bad_status (part_of x n d) ≡ false
  pub bodies : (d : ℕ) → d < k → bad_body n (part_of x n d) ≡ false
  pub words : (a : ℕ) → a < n → is_neither (word_of x a) ≡ false
  pub pointers : (a : ℕ) → a < n → bad_pointer_at n k x a ≡ false

pub good : (n k : ℕ) (x : List ℕ) → Accepted n k x → Good n k x
good n k x e =
    record {
      sized = accepted_sized n k x e;
      statuses = none_below (λ d. bad_status (part_of x n d)) k e.statuses;
      bodies = none_below (λ d. bad_body n (part_of x n d)) k e.bodies;
      words = none_below (λ a. is_neither (word_of x a)) n e.words;
      pointers = none_below (λ a. bad_pointer_at n k x a) n e.pointers;
    }

pub good_back : (n k : ℕ) (x : List ℕ) → bad_sizes n k ≡ false → Good n k x → image_refusal n k x ≡ 0
good_back n k x e g =
    accepted_back n k x
    (record {
      sizes = e;
      bytes = ap not (eq-eqb _ _ g.sized.bytes);
      statuses = below_all (λ d. bad_status (part_of x n d)) k g.statuses;
      bodies = below_all (λ d. bad_body n (part_of x n d)) k g.bodies;
      words = below_all (λ a. is_neither (word_of x a)) n g.words;
      pointers = below_all (λ a. bad_pointer_at n k x a) n g.pointers;
    })

-- a pointer's target is as good as it was where its bytes are as they were
pub pointer_kept : (n k : ℕ) (x y : List ℕ) (b : ℕ) (w : Sort) → ((d : ℕ) → d < k → points_to w d ≡ true → part_of y n d ≡ part_of x n d) → bad_pointer n k x b w ≡ false
    → bad_pointer n k y b w ≡ false
unfolding bad_target
pointer_kept n k x y b (Plain v dirty) f e = refl
pointer_kept n k x y b (Neither v) f e = refl
pointer_kept n k x y b (Pointer d dirty) f e =
    let l : d < k = leb-false k d (or_left (leb k d) (is_free (status_in (part_of x n d)) || not (has_address (part_of x n d) b)) e) in
    let p : part_of y n d ≡ part_of x n d = f d l (eq-eqb d d refl) in
    rw p e

pub points_target : (n k : ℕ) (x : List ℕ) (a d : ℕ) (w : Sort) → points_to w d ≡ true → bad_pointer n k x a w ≡ bad_target n k x a d
points_target n k x a d (Plain v dirty) e = let z : ◌≡◌ {A = ℕ} 0 1 = cc in absurd (omega arith)
points_target n k x a d (Pointer c dirty) e = rw (eqb-true c d e)
points_target n k x a d (Neither v) e = let z : ◌≡◌ {A = ℕ} 0 1 = cc in absurd (omega arith)

-- a value stored in a word
module _ (n k : ℕ) (x : List ℕ) (g : Good n k x) (a : ℕ) (h : a < n) (v : ℕ) (l : v < 2 ^ 61) where
  pub word_is : (P : Sort → Type 0) (b : ℕ) → P (Plain v false) → ((a ≡ b → ⊥) → P (word_of x b)) → P (word_of (with_word x a (Plain v false)) b)
  word_is P b p q = go (eqb a b) refl
    where
      go : (t : Bool) → eqb a b ≡ t → P (word_of (with_word x a (Plain v false)) b)
      go true e = rw (← eqb-true a b e, word_stored n k x g.sized a h v l) p
      go false e = let o = eqb-false a b e in rw (word_other n k x g.sized a h (Plain v false) b o) (q o)

  pub good_word : Good n k (with_word x a (Plain v false))
  unfolding bad_pointer_at
  good_word =
      let z = g.sized in
      record {
        sized = record { words = z.words; descriptors = z.descriptors; bytes = number_length x _ _ ∙ z.bytes };
        statuses = λ d m. rw (part_word n k x z a h (Plain v false) d m) (g.statuses d m);
        bodies = λ d m. rw (part_word n k x z a h (Plain v false) d m) (g.bodies d m);
        words = λ b m. word_is (λ s. is_neither s ≡ false) b refl (λ o. g.words b m);
        pointers = λ b m.
            word_is (λ s. bad_pointer n k (with_word x a (Plain v false)) b s ≡ false) b refl
            (λ o. pointer_kept n k x (with_word x a (Plain v false)) b (word_of x b) (λ d q f. part_word n k x z a h (Plain v false) d q) (g.pointers b m));
      }

-- Free stored, where no word points there
module _ (n k : ℕ) (x : List ℕ) (g : Good n k x) (d : ℕ) (h : d < k) (none : (a : ℕ) → a < n → points_to (word_of x a) d ≡ false) where
  part_is : (P : List ℕ → Type 0) (e : ℕ) → e < k → P (part_of (with_status x n d Free) n d) → P (part_of x n e) → P (part_of (with_status x n d Free) n e)
  part_is P e l p q = go (eqb d e) refl
    where
      go : (t : Bool) → eqb d e ≡ t → P (part_of (with_status x n d Free) n e)
      go true f = rw (← eqb-true d e f) p
      go false f = rw (part_status n k x g.sized d h Free e l (eqb-false d e f)) q

  free_body : bad_body n (part_of (with_status x n d Free) n d) ≡ false
  unfolding bad_body
  free_body = rw (status_freed n k x g.sized d h)

  pub good_free : Good n k (with_status x n d Free)
  unfolding bad_pointer_at
  good_free =
      let z = g.sized in
      record {
        sized = record { words = z.words; descriptors = z.descriptors; bytes = number_length x _ _ ∙ z.bytes };
        statuses = λ e m. part_is (λ p. bad_status p ≡ false) e m (ap is_bad (status_freed n k x z d h)) (g.statuses e m);
        bodies = λ e m. part_is (λ p. bad_body n p ≡ false) e m free_body (g.bodies e m);
        words = λ b m. rw (word_status n k x z d h Free b m) (g.words b m);
        pointers = λ b m.
            rw (word_status n k x z d h Free b m)
            (pointer_kept n k x (with_status x n d Free) b (word_of x b)
            (λ e q f. part_status n k x z d h Free e q (λ r. let i = none b m in let j : points_to (word_of x b) d ≡ true = rw r f in let y : ◌≡◌ {A = ℕ} 0 1 = cc in omega arith))
            (g.pointers b m));
      }

-- the entries of a live descriptor
few : (c : ℕ) (t : Bool) → (not (within c 4) || t) ≡ false → (0 < c) × (c ≤ 4)
few c t e =
    let w = not-false (within c 4) (or_left (not (within c 4)) t e) in
    (ltb-true _ _ (and_first (ltb 0 c) (leb c 4) w), leb-true _ _ (and_second (ltb 0 c) (leb c 4) w))

module _ (n : ℕ) (p : List ℕ) (b : bad_body n p ≡ false) (f : is_free (status_in p) ≡ false) where
  pub open_body : (not (within (count_in p) 4) || some_below (count_in p) (λ i. bad_at n p i)) ≡ false
  unfolding bad_body
  open_body = rw f at b

  pub live_count : (0 < count_in p) × (count_in p ≤ 4)
  live_count = few (count_in p) (some_below (count_in p) (λ i. bad_at n p i)) open_body

  pub entry_good : (i : ℕ) → i < count_in p → bad_entry n (entry_in p i) ≡ false
  unfolding bad_at
  entry_good zero l = none_below (λ i. bad_at n p i) (count_in p) (or_right (not (within (count_in p) 4)) (some_below (count_in p) (λ i. bad_at n p i)) open_body) 0 l
  entry_good (suc i) l =
      or_left (bad_entry n (entry_in p (suc i))) (leb (entry_in p (suc i)).address (entry_in p i).address)
      (none_below (λ j. bad_at n p j) (count_in p) (or_right (not (within (count_in p) 4)) (some_below (count_in p) (λ j. bad_at n p j)) open_body) (suc i) l)

pub entry_small : (n : ℕ) (e : Entry) → bad_entry n e ≡ false → (e.address < n) × ((e.expected < 2 ^ 61) × (e.desired < 2 ^ 61))
unfolding bad_entry
entry_small n e h =
    let a = leb n e.address in
    let b = leb (2 ^ 61) e.expected in
    let c = leb (2 ^ 61) e.desired in
    let r = or_right a (b || c) h in
    (leb-false n e.address (or_left a (b || c) h), (leb-false (2 ^ 61) e.expected (or_left b c r), leb-false (2 ^ 61) e.desired (or_right b c r)))

pub chosen_small : (o : Outcome) (e : Entry) → e.expected < 2 ^ 61 → e.desired < 2 ^ 61 → chosen o e < 2 ^ 61
chosen_small Succeeded e h l = l
chosen_small Failed e h l = h

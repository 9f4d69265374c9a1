-- The words that the descriptors claim: one law for each answer; and a pointer that none claims is a bad one.
use mathlib.Core.Path.{◌≡◌, refl, sym, ap, ◌∙◌}
use mathlib.Core.Bool.{Bool, true, false, not, ◌&&◌, ◌||◌}
use mathlib.Core.List.{List}
use Prim.Native.Nat.{ℕ, zero, suc, ◌+◌, ◌*◌, ◌%◌, ◌<◌, ◌≤◌, ◌^◌}
use native.Mathlib.Omega.{arith}
use lib.Dec.{eqb, leb, ltb}
use lib.ListN.{length, get_or, set, replicate, length-set, length-replicate}
use lib.Seq.{get_or-set_same, get_or-set_other}
use borrow.Author.Tests.{eq-eqb, ne_eqb, eqb-true, eqb-false, lt-ltb, le-ltb, le-leb, lt-leb, ltb-true, ltb-false, not-true, not-false}
use Rattle.std.proofs.Math.Bool.{or-false, or-true, and-false}
use Rattle.word.specs.declared.Sort.{Sort}
use Rattle.word.specs.declared.Sort.TheVariants.{Plain, Pointer, Neither}
use Rattle.word.specs.Word.{marked, sort_of}
use Rattle.word.specs.Bits.{set_bit, by_bits}
use Rattle.steps.specs.declared.Entry.{Entry}
use Rattle.steps.specs.Plan.{is_free, points_to}
use Rattle.little.specs.Number.{number_at}
use Rattle.image.specs.Layout.{word_of, part_of, status_in, count_in, entry_in}
use Rattle.image.specs.Check.{some_below, bad_body, is_neither, has_within, has_address, bad_target, bad_pointer, bad_pointer_at, bad_bodies, bad_words, bad_pointers}
use Rattle.image.specs.CheckLaws.{none_below}
use Rattle.image.specs.Good.{live_count, entry_good, entry_small}
use Rattle.image.specs.Claims.{claims_in, claims, claimed, MarkedBy, Marked, bad_marked, bad_marked_words}

-- a number that points to d
no_mark : (w n : ℕ) (c : Bool) → n < 2 ^ 63 → w ≡ marked c n → w % 2 ^ 63 ≡ n
no_mark w n true h e = omega arith
no_mark w n false h e = omega arith

same_shift : (k n d : ℕ) → eqb (k + n) (k + d) ≡ eqb n d
same_shift k n d = go (eqb n d) refl
  where
    go : (t : Bool) → eqb n d ≡ t → eqb (k + n) (k + d) ≡ eqb n d
    go true e = let q : n ≡ d = eqb-true n d e in eq-eqb (k + n) (k + d) (omega arith) ∙ sym e
    go false e = let q : n ≡ d → ⊥ = eqb-false n d e in ne_eqb (k + n) (k + d) (λ g. q (omega arith)) ∙ sym e

points_number : (w d : ℕ) → w < 2 ^ 64 → d < 2 ^ 61 → eqb (w % 2 ^ 63) (2 ^ 62 + d) ≡ points_to (sort_of w) d
points_number w d h l =
    by_bits w h (λ s. eqb (w % 2 ^ 63) (2 ^ 62 + d) ≡ points_to s d)
    (λ e. let b = set_bit 61 w e in ne_eqb (w % 2 ^ 63) (2 ^ 62 + d) (λ q. omega arith))
    (λ n c m e f. let z : w % 2 ^ 63 ≡ 2 ^ 62 + n = no_mark w (2 ^ 62 + n) c (omega arith) f in rw z (same_shift (2 ^ 62) n d))
    (λ n c m e f. let z : w % 2 ^ 63 ≡ n = no_mark w n c (omega arith) f in ne_eqb (w % 2 ^ 63) (2 ^ 62 + d) (λ q. omega arith))

pub points_law : (x : List ℕ) (a d u : ℕ) → u ≡ number_at x (8 * a) → u < 2 ^ 64 → d < 16 → eqb (u % 2 ^ 63) (2 ^ 62 + d) ≡ points_to (word_of x a) d
points_law x a d u e h l = points_number u d h (omega arith) ∙ ap (λ (w : ℕ). points_to (sort_of w) d) e

pub address_small : (p : List ℕ) (i c : ℕ) (e : Entry) → ((j : ℕ) → j < count_in p → (entry_in p j).address < 64) → e ≡ entry_in p i → c ≡ count_in p → i < c → e.address < 64
address_small p i c e h f g l = rw f (h i (rw g at l))

-- an entry more
within_next : (p : List ℕ) (i b : ℕ) → has_within p (i + 1) b ≡ (has_within p i b || eqb (entry_in p i).address b)
unfolding has_within some_below
within_next p i b = let z : i + 1 ≡ suc i = omega arith in rw z

pub marks_first : (m : List Bool) (x p : List ℕ) (d : ℕ) → length m ≡ 64 → MarkedBy m m x p d 0
unfolding claims_in has_within some_below
marks_first m x p d e = record { whole = e; marks = λ a h. rw (and-false (points_to (word_of x a) d), or-false (get_or m a false)) }

module _ (m₀ m : List Bool) (x p : List ℕ) (d i : ℕ) (e : Entry) (t : Bool) (h : MarkedBy m₀ m x p d i) (f : e ≡ entry_in p i)
    (g : t ≡ points_to (word_of x e.address) d) where
  here : (entry_in p i).address ≡ e.address
  here = ap (λ (o : Entry). o.address) (sym f)

  -- another address than the entry's
  other : (b : ℕ) → b < 64 → eqb e.address b ≡ false → get_or m b false ≡ (get_or m₀ b false || claims_in x p d (i + 1) b)
  unfolding claims_in
  other b l q = h.marks b l ∙ rw (within_next p i b, here, q, or-false (has_within p i b))

  pub marks_set : t ≡ true → e.address < 64 → MarkedBy m₀ (set m e.address true) x p d (i + 1)
  unfolding claims_in
  marks_set r l = record { whole = length-set m e.address true ∙ h.whole; marks = λ b j. go b j (eqb e.address b) refl }
    where
      o : e.address < length m
      o = rw h.whole l

      go : (b : ℕ) → b < 64 → (u : Bool) → eqb e.address b ≡ u → get_or (set m e.address true) b false ≡ (get_or m₀ b false || claims_in x p d (i + 1) b)
      go b j true q =
          let z : e.address ≡ b = eqb-true e.address b q in
          let w : points_to (word_of x b) d ≡ true = rw (← z) (sym g ∙ r) in
          rw (within_next p i b, here, q, or-true (has_within p i b), w, or-true (get_or m₀ b false), ← z) (get_or-set_same m e.address true false o)
      go b j false q = get_or-set_other m e.address b true false (λ v. eqb-false e.address b q (sym v)) ∙ other b j q

  pub marks_kept : t ≡ false → MarkedBy m₀ m x p d (i + 1)
  unfolding claims_in
  marks_kept r = record { whole = h.whole; marks = λ b j. go b j (eqb e.address b) refl }
    where
      go : (b : ℕ) → b < 64 → (u : Bool) → eqb e.address b ≡ u → get_or m b false ≡ (get_or m₀ b false || claims_in x p d (i + 1) b)
      go b j true q =
          let z : e.address ≡ b = eqb-true e.address b q in
          let w : points_to (word_of x b) d ≡ false = rw (← z) (sym g ∙ r) in
          h.marks b j ∙ rw w
      go b j false q = other b j q

-- no mark
no_marks : (i a : ℕ) → get_or (replicate i false) a false ≡ false
no_marks zero a = refl
no_marks (suc i) zero = refl
no_marks (suc i) (suc a) = no_marks i a

pub claimed_first : (n : ℕ) (x : List ℕ) → Marked n 0 x (replicate 64 false)
unfolding some_below
claimed_first n x = record { whole = length-replicate 64 false; marks = λ a h. no_marks 64 a }

-- a live descriptor's entries
module _ (n k : ℕ) (x : List ℕ) (d : ℕ) (p : List ℕ) (q : p ≡ part_of x n d) (t : Bool) (b : bad_bodies n k x ≡ false) (h : d < k) (e : t ≡ is_free (status_in p))
    (f : not t ≡ true) where
  good_body : bad_body n p ≡ false
  good_body = rw q (none_below (λ i. bad_body n (part_of x n i)) k b d h)

  is_live : is_free (status_in p) ≡ false
  is_live = sym e ∙ not-true t f

  pub live_few : count_in p ≤ 4
  live_few = (live_count n p good_body is_live).1

  pub live_small : n ≤ 64 → (i : ℕ) → i < count_in p → (entry_in p i).address < 64
  live_small l i j =
      let a = (entry_small n (entry_in p i) (entry_good n p good_body is_live i j)).0 in
      omega arith

-- a descriptor more
module _ (n : ℕ) (x : List ℕ) (d : ℕ) (p : List ℕ) (q : p ≡ part_of x n d) (m : List Bool) (t : Bool) (h : Marked n d x m) (e : t ≡ is_free (status_in p)) where
  here_is : is_free (status_in (part_of x n d)) ≡ t
  here_is = rw (← q) (sym e)

  claimed_next : (a : ℕ) → claimed n (d + 1) x a ≡ (claimed n d x a || claims n x d a)
  unfolding some_below
  claimed_next a = let z : d + 1 ≡ suc d = omega arith in rw z

  pub claimed_free : not t ≡ false → Marked n (d + 1) x m
  unfolding claims
  claimed_free f =
      record {
        whole = h.whole;
        marks = λ a l. h.marks a l ∙ rw (claimed_next a, here_is, not-false t f, and-false (points_to (word_of x a) d), or-false (claimed n d x a));
      }

  pub claimed_live : (m' : List Bool) → not t ≡ true → MarkedBy m m' x p d (count_in p) → Marked n (d + 1) x m'
  unfolding claims claims_in
  claimed_live m' f o = record { whole = o.whole; marks = λ a l. o.marks a l ∙ rw (h.marks a l, claimed_next a, here_is, not-true t f, q) }

-- of what holds below a number: the same, either of two, one alone
below_same : (f g : ℕ → Bool) (k : ℕ) → ((i : ℕ) → i < k → f i ≡ g i) → some_below k f ≡ some_below k g
unfolding some_below
below_same f g zero h = refl
below_same f g (suc k) h = rw (below_same f g k (λ i l. h i (omega arith)), h k (omega arith))

or_swap : (a b c d : Bool) → ((a || b) || (c || d)) ≡ ((a || c) || (b || d))
or_swap true b c d = refl
or_swap false true true d = refl
or_swap false true false d = refl
or_swap false false c d = refl

pub below_either : (f g : ℕ → Bool) (k : ℕ) → some_below k (λ i. f i || g i) ≡ (some_below k f || some_below k g)
unfolding some_below
below_either f g zero = refl
below_either f g (suc k) = rw (below_either f g k) (or_swap (some_below k f) (some_below k g) (f k) (g k))

below_only : (g : ℕ → Bool) (e k : ℕ) → some_below k (λ d. eqb e d && g d) ≡ (ltb e k && g e)
unfolding some_below
below_only g e zero = rw (le-ltb e 0 (omega arith))
below_only g e (suc k) = rw (below_only g e k) (go (ltb e k) (eqb e k) refl refl)
  where
    go : (t u : Bool) → ltb e k ≡ t → eqb e k ≡ u → ((t && g e) || (u && g k)) ≡ (ltb e (suc k) && g e)
    go true true p q = let l = ltb-true e k p in let z = eqb-true e k q in absurd (omega arith)
    go true false p q = let l = ltb-true e k p in rw (lt-ltb e (suc k) (omega arith)) (or-false (g e))
    go false true p q = let z : e ≡ k = eqb-true e k q in rw (lt-ltb e (suc k) (omega arith), z)
    go false false p q = let l = ltb-false e k p in let z : e ≡ k → ⊥ = eqb-false e k q in rw (le-ltb e (suc k) (omega arith))

-- a pointer that none claims is bad
not-below : (k e : ℕ) → leb k e ≡ not (ltb e k)
not-below k e = go (ltb e k) refl
  where
    go : (t : Bool) → ltb e k ≡ t → leb k e ≡ not (ltb e k)
    go true p = rw p (lt-leb k e (ltb-true e k p))
    go false p = rw p (le-leb k e (ltb-false e k p))

module _ (n k : ℕ) (x : List ℕ) (a : ℕ) where
  by_sort : (s : Sort) → bad_marked (some_below k (λ d. points_to s d && (not (is_free (status_in (part_of x n d))) && has_address (part_of x n d) a))) s
      ≡ (is_neither s || bad_pointer n k x a s)
  unfolding bad_target
  by_sort (Plain v dirty) = refl
  by_sort (Neither v) = refl
  by_sort (Pointer e dirty) =
      rw (below_only (λ d. not (is_free (status_in (part_of x n d))) && has_address (part_of x n d) a) e k, not-below k e)
      (go (ltb e k) (is_free (status_in (part_of x n e))) (has_address (part_of x n e) a))
    where
      go : (t u v : Bool) → not (t && (not u && v)) ≡ (not t || (u || not v))
      go true true v = refl
      go true false true = refl
      go true false false = refl
      go false u v = refl

  unclaimed : bad_marked (claimed n k x a) (word_of x a) ≡ (is_neither (word_of x a) || bad_pointer_at n k x a)
  unfolding claims bad_pointer_at
  unclaimed = by_sort (word_of x a)

pub marked_words : (n k : ℕ) (x : List ℕ) (m : List Bool) → n ≤ 64 → Marked n k x m → bad_marked_words n x m ≡ (bad_words n x || bad_pointers n k x)
marked_words n k x m l h =
    below_same (λ a. bad_marked (get_or m a false) (word_of x a)) (λ a. is_neither (word_of x a) || bad_pointer_at n k x a) n
    (λ a j. rw (h.marks a (omega arith)) (unclaimed n k x a))
    ∙ below_either (λ a. is_neither (word_of x a)) (λ a. bad_pointer_at n k x a) n

-- Every mixture of an accepted image and of what a complete recovery makes of it is on the way between them, and so is all that calls and mixtures make of it.
use Rattle.std.specs.Prelude.{◌≡◌, refl, true, false, List, ◌⊎◌, ℕ, ◌+◌, ◌-◌, ◌<◌, ◌≤◌, length, get_or, drop}
use Rattle.std.proofs.Common.{sym, ap, ◌∙◌, inl, inr, arith, get_or-take, get_or-drop}
use Rattle.word.specs.declared.Sort.{Sort}
use Rattle.word.specs.declared.Sort.TheVariants.{Plain, Pointer, Neither}
use Rattle.word.specs.Word.{sort_of}
use Rattle.steps.specs.declared.RecoveryPlace.TheVariants.{At}
use Rattle.steps.specs.Plan.{points_to}
use Rattle.little.specs.Laws.{same_number}
use Rattle.image.specs.Layout.{word_place, word_of, descriptor_place, part_of}
use Rattle.image.specs.Check.{bad_status, bad_body, bad_pointer, bad_pointer_at, is_neither, image_refusal}
use Rattle.image.specs.CheckLaws.{accepted}
use Rattle.image.specs.Good.{Good, good, pointer_kept}
use Rattle.image.specs.Values.{sort_value_in, value_in, value_same}
use Rattle.image.specs.Ends.{is_plain}
use Rattle.image.specs.Cuts.{byte_by, word_end, part_byte, Over, from_then, same_byte, plain_byte, all_alike, call_runs}
use Rattle.image.specs.Recover.{run_from, recover_of}
use Rattle.images.specs.Way.{Way, way_none, way_then, way_accepted, run_is_way, run_is_over}
use Rattle.images.specs.InPart.{SameWord, OldOrFreed, Mixture, MayBeLeft, none, cut, mixed, EveryMixtureRecovers}
use Rattle.images.specs.AgainHolds.{call_complete}

pub alike_word : (x y : List ℕ) (a : ℕ) → length y ≡ length x → SameWord x y a → word_of y a ≡ word_of x a
alike_word x y a e f =
    ap sort_of
    (same_number y x (word_place a) e
    (λ i l m. let z : word_place a + (i - word_place a) ≡ i = omega arith in rw z at (f (i - word_place a) (omega arith))))

plain_value_of : (n : ℕ) (x y : List ℕ) (a : ℕ) (w : Sort) → is_plain w ≡ true → sort_value_in n y a w ≡ sort_value_in n x a w
plain_value_of n x y a (Plain v c) e = refl
plain_value_of n x y a (Pointer d c) e = let z : ◌≡◌ {A = ℕ} 0 1 = cc in absurd (omega arith)
plain_value_of n x y a (Neither w) e = refl

plain_pointer : (n k : ℕ) (y : List ℕ) (a : ℕ) (w : Sort) → is_plain w ≡ true → bad_pointer n k y a w ≡ false
plain_pointer n k y a (Plain v c) e = refl
plain_pointer n k y a (Pointer d c) e = let z : ◌≡◌ {A = ℕ} 0 1 = cc in absurd (omega arith)
plain_pointer n k y a (Neither w) e = refl

plain_word : (w : Sort) → is_plain w ≡ true → is_neither w ≡ false
plain_word (Plain v c) e = refl
plain_word (Pointer d c) e = refl
plain_word (Neither w) e = let z : ◌≡◌ {A = ℕ} 0 1 = cc in absurd (omega arith)

plain_apart : (w : Sort) (d : ℕ) → is_plain w ≡ true → points_to w d ≡ true → ⊥
plain_apart (Plain v c) d e f = let z : ◌≡◌ {A = ℕ} 0 1 = cc in omega arith
plain_apart (Pointer g c) d e f = let z : ◌≡◌ {A = ℕ} 0 1 = cc in omega arith
plain_apart (Neither w) d e f = let z : ◌≡◌ {A = ℕ} 0 1 = cc in omega arith

-- a byte of a part is a byte of the image
part_byte_same : (n : ℕ) (x y : List ℕ) (d j : ℕ) → j < 112 → part_of y n d ≡ part_of x n d → part_byte n y d j ≡ part_byte n x d j
part_byte_same n x y d j l p =
    sym (get_or-drop (descriptor_place n d) y j 0)
    ∙ sym (get_or-take 112 (drop (descriptor_place n d) y) j 0 l)
    ∙ ap (λ (q : List ℕ). get_or q j 0) p
    ∙ get_or-take 112 (drop (descriptor_place n d) x) j 0 l
    ∙ get_or-drop (descriptor_place n d) x j 0

module _ (n k : ℕ) (x r y : List ℕ) (g : Good n k x) (w : Way n k x r) (o : Over n k r) (m : Mixture n k x r y) where
  lengths : length y ≡ length r
  lengths = let a = g.sized.bytes in let b = w.fine.sized.bytes in let c = m.size in omega arith

  recovered_word : (a : ℕ) → a < n → SameWord r y a → word_of y a ≡ word_of r a
  recovered_word a h f = alike_word r y a lengths f

  -- the descriptor that an old pointer points to is the old one
  old_part : (a : ℕ) → a < n → SameWord x y a → (d : ℕ) → d < k → points_to (word_of x a) d ≡ true → part_of y n d ≡ part_of x n d
  old_part a h f d l t = go (m.parts d l)
    where
      go : OldOrFreed n x r y d → part_of y n d ≡ part_of x n d
      go (inl e) = e
      go (inr q) =
          let u = recovered_word a h (q.1 a h t) in
          let v = alike_word x y a m.size f in
          let s : word_of x a ≡ word_of r a = sym v ∙ u in
          absurd (plain_apart (word_of r a) d (o.1 a h) (rw s at t))

  -- a word of y is one of x, or a plain one of r
  mixed_word : (a : ℕ) → a < n → (P : List ℕ → Sort → Type 0) → (SameWord x y a → word_of y a ≡ word_of x a → P y (word_of x a))
      → (SameWord r y a → is_plain (word_of r a) ≡ true → P y (word_of r a))
      → P y (word_of y a)
  mixed_word a h P old new = go (m.words a h)
    where
      go : SameWord x y a ⊎ SameWord r y a → P y (word_of y a)
      go (inl f) = let e = alike_word x y a m.size f in rw e (old f e)
      go (inr f) = rw (recovered_word a h f) (new f (o.1 a h))

  either_part : (P : List ℕ → Type 0) (d : ℕ) → d < k → P (part_of x n d) → P (part_of r n d) → P (part_of y n d)
  either_part P d l p q = go (m.parts d l)
    where
      go : OldOrFreed n x r y d → P (part_of y n d)
      go (inl e) = rw e p
      go (inr u) = rw u.0 q

  mixture_good : Good n k y
  unfolding bad_pointer_at
  mixture_good =
      let z = g.sized in
      let f = w.fine in
      record {
        sized = record { words = z.words; descriptors = z.descriptors; bytes = m.size ∙ z.bytes };
        statuses = λ d l. either_part (λ p. bad_status p ≡ false) d l (g.statuses d l) (f.statuses d l);
        bodies = λ d l. either_part (λ p. bad_body n p ≡ false) d l (g.bodies d l) (f.bodies d l);
        words = λ a h. mixed_word a h (λ q s. is_neither s ≡ false) (λ u e. g.words a h) (λ u e. plain_word (word_of r a) e);
        pointers = λ a h.
            mixed_word a h (λ q s. bad_pointer n k q a s ≡ false)
            (λ u e. pointer_kept n k x y a (word_of x a) (λ d l t. old_part a h u d l t) (g.pointers a h))
            (λ u e. plain_pointer n k y a (word_of r a) e);
      }

  mixture_value : (a : ℕ) → a < n → value_in n y a ≡ value_in n x a
  unfolding value_in bad_pointer_at
  mixture_value a h =
      mixed_word a h (λ q s. sort_value_in n q a s ≡ sort_value_in n x a (word_of x a))
      (λ u e. value_same n k x y a (word_of x a) (λ d l t. old_part a h u d l t) (g.pointers a h))
      (λ u e. plain_value_of n r y a (word_of r a) e ∙ w.values a h)

  mixture_end : (a j : ℕ) → a < n → j < 8 → word_end n y a j ≡ word_end n x a j
  mixture_end a j h l = go (m.words a h)
    where
      go : SameWord x y a ⊎ SameWord r y a → word_end n y a j ≡ word_end n x a j
      go (inl f) =
          ap (λ (s : Sort). byte_by n y a j s) (alike_word x y a m.size f)
          ∙ same_byte n x y a j (word_of x a) (f j l) (mixture_value a h)
      go (inr f) =
          let e = recovered_word a h f in
          ap (λ (s : Sort). byte_by n y a j s) e
          ∙ plain_byte n y a j (word_of r a) (o.1 a h)
          ∙ f j l
          ∙ sym (plain_byte n r a j (word_of r a) (o.1 a h))
          ∙ w.from.0 a j h l

  mixture_part : (d j : ℕ) → d < k → 8 ≤ j → j < 112 → part_byte n y d j ≡ part_byte n x d j
  mixture_part d j l p q = go (m.parts d l)
    where
      go : OldOrFreed n x r y d → part_byte n y d j ≡ part_byte n x d j
      go (inl e) = part_byte_same n x y d j q e
      go (inr u) = part_byte_same n r y d j q u.0 ∙ w.from.1 d j l p q

  mixture_way : Way n k x y
  mixture_way = record { fine = mixture_good; from = (mixture_end, mixture_part); values = mixture_value }

left_way : (n k : ℕ) (x z : List ℕ) → image_refusal n k x ≡ 0 → MayBeLeft n k x z → Way n k x z
left_way n k x z e none = way_none n k _ (good n k _ (accepted n k _ e))
left_way n k x z e (cut s l) =
    let y = (recover_of n k x s).bytes in
    let v : Way n k x y = rw (call_runs n k x s e) (run_is_way n k x s e) in
    way_then n k x y z v (left_way n k y z (way_accepted n k x y e v) l)
left_way n k x z e (mixed t y c m l) =
    let r = (run_from t n k x (At 0 0)).bytes in
    let q : Mixture n k x r y = rw (← call_runs n k x t e) m in
    let v = mixture_way n k x r y (good n k x (accepted n k x e)) (run_is_way n k x t e) (run_is_over n k x t e (call_complete n k x e t c)) q in
    way_then n k x y z v (left_way n k y z (way_accepted n k x y e v) l)

-- what is left of an accepted image
module _ (n k : ℕ) (x y : List ℕ) (e : image_refusal n k x ≡ 0) (l : MayBeLeft n k x y) where
  way : Way n k x y
  way = left_way n k x y e l

  left_accepted : image_refusal n k y ≡ 0
  left_accepted = way_accepted n k x y e way

  left_same : (s t : ℕ) → (recover_of n k y s).result.answer ≡ 0 → (recover_of n k x t).result.answer ≡ 0 → (recover_of n k y s).bytes ≡ (recover_of n k x t).bytes
  left_same s t c d =
      let z = (run_from s n k y (At 0 0)).bytes in
      let r = (run_from t n k x (At 0 0)).bytes in
      let v = run_is_way n k y s left_accepted in
      let w = run_is_way n k x t e in
      let p = run_is_over n k y s left_accepted (call_complete n k y left_accepted s c) in
      let q = run_is_over n k x t e (call_complete n k x e t d) in
      call_runs n k y s left_accepted
      ∙ all_alike n k x z r v.fine.sized w.fine.sized (from_then n k x y z way.from v.from) w.from p q
      ∙ sym (call_runs n k x t e)

pub every_mixture_recovers : EveryMixtureRecovers
every_mixture_recovers n k x y e l = record { accepted = left_accepted n k x y e l; values = (way n k x y e l).values; same = left_same n k x y e l }

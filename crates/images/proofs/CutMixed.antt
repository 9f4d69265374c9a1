-- What a cut call leaves is a mixture itself: each word the old one or the recovered one, each descriptor the old one, or the freed one and then no word that pointed to it is the old one.
use Rattle.std.specs.Prelude.{◌≡◌, refl, Bool, true, false, not, ◌⊎◌, List, ℕ, zero, suc, ◌+◌, ◌-◌, ◌/◌, ◌<◌, ltb, leb}
use Rattle.std.proofs.Common.{sym, ap, ◌∙◌, ⊎_elim, inl, inr, arith, ltb-true, ltb-false}
use Rattle.std.proofs.Math.Decide.{ℕ_discrete}
use Rattle.word.specs.declared.Sort.TheVariants.{Plain}
use Rattle.word.specs.declared.Status.TheVariants.{Free}
use Rattle.steps.specs.declared.RecoveryPlace.{RecoveryPlace}
use Rattle.steps.specs.declared.RecoveryPlace.TheVariants.{Outside, At}
use Rattle.steps.specs.Plan.{is_free, points_to, left_value}
use Rattle.image.specs.Layout.{word_of, with_word, descriptor_place, part_of, status_in, entry_in, with_status}
use Rattle.image.specs.Check.{has_address, bad_target, bad_pointer_at, image_refusal}
use Rattle.image.specs.Recover.{seen_in, performed_in, plan_in, image_after, place_then, run_from, recover_of}
use Rattle.image.specs.CheckLaws.{or_left, or_right, accepted, sizes_small}
use Rattle.image.specs.LayoutLaws.{same_part, word_stored, part_word, status_freed, part_status}
use Rattle.image.specs.PlanLaws.{plan_cases}
use Rattle.image.specs.Good.{Good, good, points_target}
use Rattle.image.specs.Stays.{Reached, Stands, begins, entry_at, step_good, step_stands, stays_accepted}
use Rattle.images.specs.InPart.{SameWord, OldOrFreed, Mixture, EveryCutMixes}
use Rattle.image.specs.Values.{step_word}
use Rattle.image.specs.Ends.{is_plain, complete_frees, complete_plain}
use Rattle.image.specs.Cuts.{part_byte, plain_byte, free_byte, cut_from, call_runs}
use Rattle.images.specs.AgainHolds.{call_complete}
use Rattle.images.proofs.Mixing.{alike_word}

-- a word is as it was, or plain
abbrev WordLeft : List ℕ → ℕ → List ℕ → Type 0
WordLeft x a y = SameWord x y a ⊎ (is_plain (word_of y a) ≡ true)

run_word : (s n k : ℕ) (x y : List ℕ) (p : RecoveryPlace) → Good n k y → Stands n k y p → (a : ℕ) → a < n → WordLeft x a y → WordLeft x a (run_from s n k y p).bytes
unfolding run_from
run_word zero n k x y p g r a h w = w
run_word (suc s) n k x y Outside g r a h w = w
run_word (suc s) n k x y (At d done) g r a h w =
    run_word s n k x (image_after n y d done) (place_then n k y d done) (step_good n k y d done g r) (step_stands n k y d done g r) a h
    (step_word n k y g d done r a h (WordLeft x a)
    (λ t l. inr (ap is_plain (word_stored n k y g.sized a h _ l)))
    (λ z e b v. ⊎_elim (λ f. inl (λ j m. b j m ∙ f j m)) (λ f. inr (ap is_plain e ∙ f)) w))

-- a descriptor is as it was, or Free
abbrev PartLeft : ℕ → List ℕ → ℕ → List ℕ → Type 0
PartLeft n x d y = (part_of y n d ≡ part_of x n d) ⊎ (status_in (part_of y n d) ≡ Free)

part_then : (n : ℕ) (x y z : List ℕ) (d : ℕ) → PartLeft n x d y → part_of z n d ≡ part_of y n d → PartLeft n x d z
part_then n x y z d w e = ⊎_elim (λ f. inl (e ∙ f)) (λ f. inr (ap status_in e ∙ f)) w

step_part_left : (n k : ℕ) (x y : List ℕ) (g : Good n k y) (e done : ℕ) → Reached n k y e done → (d : ℕ) → d < k → PartLeft n x d y → PartLeft n x d (image_after n y e done)
unfolding image_after plan_in seen_in
step_part_left n k x y g e done r d l w =
    plan_cases e done (seen_in y n e (done / 2)) (λ q. PartLeft n x d (performed_in y n e q.effect))
    (λ z f. w)
    (λ f b z t.
    let i = entry_in (part_of y n e) (done / 2) in
    let v = Plain (left_value (status_in (part_of y n e)) i) false in
    part_then n x y (with_word y i.address v) d w (part_word n k y g.sized i.address (entry_at n k y g e done r f b) v d l))
    (λ f b z t. w)
    (λ f b z. w)
    (λ f p z. elim (ℕ_discrete e d) [
      | yes q ↦ inr (rw (← q) (status_freed n k y g.sized e r.here))
      | no q ↦ part_then n x y (with_status y n e Free) d w (part_status n k y g.sized e r.here Free d l q)
    ])
    (λ f p z. w)

run_part : (s n k : ℕ) (x y : List ℕ) (p : RecoveryPlace) → Good n k y → Stands n k y p → (d : ℕ) → d < k → PartLeft n x d y → PartLeft n x d (run_from s n k y p).bytes
unfolding run_from
run_part zero n k x y p g r d l w = w
run_part (suc s) n k x y Outside g r d l w = w
run_part (suc s) n k x y (At e done) g r d l w =
    run_part s n k x (image_after n y e done) (place_then n k y e done) (step_good n k y e done g r) (step_stands n k y e done g r) d l (step_part_left n k x y g e done r d l w)

-- a pointer's descriptor is live
points_live : (n k : ℕ) (y : List ℕ) → Good n k y → (a d : ℕ) → a < n → points_to (word_of y a) d ≡ true → is_free (status_in (part_of y n d)) ≡ false
unfolding bad_pointer_at bad_target
points_live n k y g a d h t =
    let e = sym (points_target n k y a d (word_of y a) t) ∙ g.pointers a h in
    or_left (is_free (status_in (part_of y n d))) (not (has_address (part_of y n d) a)) (or_right (leb k d) _ e)

module _ (n k : ℕ) (x : List ℕ) (e : image_refusal n k x ≡ 0) (s t : ℕ) (c : (recover_of n k x t).result.answer ≡ 0) where
  abbrev y : List ℕ
  y = (run_from s n k x (At 0 0)).bytes

  abbrev r : List ℕ
  r = (run_from t n k x (At 0 0)).bytes

  gx : Good n k x
  gx = good n k x (accepted n k x e)

  gy : Good n k y
  gy = good n k y (accepted n k y (stays_accepted n k x s e))

  gr : Good n k r
  gr = good n k r (accepted n k r (stays_accepted n k x t e))

  first : Reached n k x 0 0
  first = begins n k x 0 (sizes_small n k (accepted n k x e).sizes).1.1.0

  complete : (run_from t n k x (At 0 0)).complete ≡ true
  complete = call_complete n k x e t c

  -- a plain word is the recovered one
  plain_recovered : (a : ℕ) → a < n → is_plain (word_of y a) ≡ true → SameWord r y a
  plain_recovered a h p j l =
      sym (plain_byte n y a j (word_of y a) p)
      ∙ (cut_from n k x s e).0 a j h l
      ∙ sym ((cut_from n k x t e).0 a j h l)
      ∙ plain_byte n r a j (word_of r a) (complete_plain n k x t e complete a h)

  words : (a : ℕ) → a < n → SameWord x y a ⊎ SameWord r y a
  words a h = ⊎_elim (λ f. inl f) (λ p. inr (plain_recovered a h p)) (run_word s n k x x (At 0 0) gx first a h (inl (λ j l. refl)))

  -- a freed descriptor is the recovered one, and so are the words that pointed to it
  freed_byte : (d : ℕ) → d < k → status_in (part_of y n d) ≡ Free → (j : ℕ) → j < 112 → (b : Bool) → ltb j 8 ≡ b → part_byte n y d j ≡ part_byte n r d j
  freed_byte d l f j m true q =
      let i = ltb-true j 8 q in free_byte n k y gy.sized d j l f i ∙ sym (free_byte n k r gr.sized d j l (complete_frees n k x t e complete d l) i)
  freed_byte d l f j m false q = let i = ltb-false j 8 q in (cut_from n k x s e).1 d j l i m ∙ sym ((cut_from n k x t e).1 d j l i m)

  freed_part : (d : ℕ) → d < k → status_in (part_of y n d) ≡ Free → part_of y n d ≡ part_of r n d
  freed_part d l f =
      let u = gy.sized.bytes in
      let v = gr.sized.bytes in
      same_part r y (descriptor_place n d) (u ∙ sym v) (omega arith)
      (λ i p q.
      let z : descriptor_place n d + (i - descriptor_place n d) ≡ i = omega arith in
      rw z at (freed_byte d l f (i - descriptor_place n d) (omega arith) (ltb (i - descriptor_place n d) 8) refl))

  freed_words : (d : ℕ) → status_in (part_of y n d) ≡ Free → (a : ℕ) → a < n → points_to (word_of x a) d ≡ true → SameWord r y a
  freed_words d f a h q = ⊎_elim (λ w. absurd (still w)) (λ p. plain_recovered a h p) (run_word s n k x x (At 0 0) gx first a h (inl (λ j l. refl)))
    where
      still : SameWord x y a → ⊥
      still w =
          let z : word_of y a ≡ word_of x a = alike_word x y a (gy.sized.bytes ∙ sym gx.sized.bytes) w in
          let v = points_live n k y gy a d h (rw z q) in
          let u : is_free (status_in (part_of y n d)) ≡ true = ap is_free f in
          let o : ◌≡◌ {A = ℕ} 0 1 = cc in omega arith

  parts : (d : ℕ) → d < k → OldOrFreed n x r y d
  parts d l = ⊎_elim (λ f. inl f) (λ f. inr (freed_part d l f, freed_words d f)) (run_part s n k x x (At 0 0) gx first d l (inl refl))

  mixture : Mixture n k x r y
  mixture = record { size = gy.sized.bytes ∙ sym gx.sized.bytes; words = words; parts = parts }

  cut_is_mixture : Mixture n k x (recover_of n k x t).bytes (recover_of n k x s).bytes
  cut_is_mixture = rw (call_runs n k x t e, call_runs n k x s e) mixture

pub every_cut_mixes : EveryCutMixes
every_cut_mixes n k x s t e c = cut_is_mixture n k x e s t c

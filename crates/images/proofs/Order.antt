-- Two words that point to one Succeeded: of the recovered image one word has been written back. That is a mixture, neither the old image nor the recovered one; and with the descriptor
-- written back before the other word, what is there is refused 24: the word points to a Free descriptor, and its value is lost.
use Rattle.std.specs.Prelude.{◌≡◌, refl, ◌≢◌, ◌⊎◌, List, ◌++◌, ℕ, zero, suc, ◌+◌, ◌^◌, ◌<◌, get_or, replicate}
use Rattle.std.proofs.Common.{ap, inl, inr, arith}
use Rattle.word.specs.Word.{sort_of}
use Rattle.word.specs.Status.{status_of}
use Rattle.little.specs.Number.{bytes_of, number_at, with_number}
use Rattle.steps.specs.Recovery.{entry_step, end_step, live_step, recovery_plan}
use Rattle.events.specs.Refusal.{first_of}
use Rattle.machine.specs.Recover.{visit_after}
use Rattle.image.specs.Layout.{word_place}
use Rattle.image.specs.Check.{some_below, bad_entry, bad_at, bad_body, has_within, bad_target, bad_pointer_at, image_refusal, content_refusal}
use Rattle.image.specs.Recover.{seen_in, plan_in, image_after, place_then, run_from, recover_of, recovered}
use Rattle.images.specs.InPart.{SameWord, OldOrFreed, Mixture}

-- the body of the descriptor: address 0 from 0 to 5, address 1 from 0 to 7
abbrev body : List ℕ
body = bytes_of 8 2 ++ bytes_of 8 0 ++ bytes_of 8 0 ++ bytes_of 8 5 ++ bytes_of 8 1 ++ bytes_of 8 0 ++ bytes_of 8 7 ++ replicate 48 0

-- two words, then the status and the body
abbrev image : ℕ → ℕ → ℕ → List ℕ
image v w s = bytes_of 8 v ++ bytes_of 8 w ++ bytes_of 8 s ++ body

abbrev pub old : List ℕ
old = image (2 ^ 62) (2 ^ 62) (2 ^ 63 + 2)

abbrev pub whole : List ℕ
whole = image 5 7 0

abbrev pub part : List ℕ
part = image 5 (2 ^ 62) (2 ^ 63 + 2)

abbrev pub too_early : List ℕ
too_early = image 5 (2 ^ 62) 0

pub old_recovers : (image_refusal 2 1 old ≡ 0) × (recover_of 2 1 old 160 ≡ recovered whole (record { answer = 0; steps = 6 }))
unfolding image_refusal content_refusal first_of some_below bad_body bad_at bad_entry bad_pointer_at bad_target has_within number_at with_number sort_of status_of
    entry_step end_step live_step recovery_plan visit_after seen_in plan_in image_after place_then run_from recover_of
old_recovers = (refl, refl)

below_8 : (P : ℕ → Type 0) → P 0 → P 1 → P 2 → P 3 → P 4 → P 5 → P 6 → P 7 → (j : ℕ) → j < 8 → P j
below_8 P a b c d e f g h zero l = a
below_8 P a b c d e f g h (suc zero) l = b
below_8 P a b c d e f g h (suc (suc zero)) l = c
below_8 P a b c d e f g h (suc (suc (suc zero))) l = d
below_8 P a b c d e f g h (suc (suc (suc (suc zero)))) l = e
below_8 P a b c d e f g h (suc (suc (suc (suc (suc zero))))) l = f
below_8 P a b c d e f g h (suc (suc (suc (suc (suc (suc zero)))))) l = g
below_8 P a b c d e f g h (suc (suc (suc (suc (suc (suc (suc zero))))))) l = h
below_8 P a b c d e f g h (suc (suc (suc (suc (suc (suc (suc (suc j)))))))) l = absurd (omega arith)

pub proper : Mixture 2 1 old whole part × (part ≢ old) × (part ≢ whole)
proper = (
  record { size = refl; words = words; parts = parts },
  λ e. let z : ◌≡◌ {A = ℕ} 5 0 = ap (λ (x : List ℕ). get_or x 0 0) e in omega arith,
  λ e. let z : ◌≡◌ {A = ℕ} 64 0 = ap (λ (x : List ℕ). get_or x 15 0) e in omega arith,
)
  where
    words : (a : ℕ) → a < 2 → SameWord old part a ⊎ SameWord whole part a
    words zero l = inr (below_8 (λ j. get_or part (word_place 0 + j) 0 ≡ get_or whole (word_place 0 + j) 0) refl refl refl refl refl refl refl refl)
    words (suc zero) l = inl (below_8 (λ j. get_or part (word_place 1 + j) 0 ≡ get_or old (word_place 1 + j) 0) refl refl refl refl refl refl refl refl)
    words (suc (suc a)) l = absurd (omega arith)

    parts : (d : ℕ) → d < 1 → OldOrFreed 2 old whole part d
    parts zero l = inl refl
    parts (suc d) l = absurd (omega arith)

pub too_early_refused : image_refusal 2 1 too_early ≡ 24
unfolding image_refusal content_refusal first_of some_below bad_body bad_at bad_entry bad_pointer_at bad_target has_within number_at sort_of status_of
too_early_refused = refl

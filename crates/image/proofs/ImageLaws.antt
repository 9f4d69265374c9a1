-- The checks over the whole image: 21 or 22 in one pass over the descriptors; and an image that passes them all.
use mathlib.Core.Path.{◌≡◌, sym, ◌∙◌}
use mathlib.Core.Bool.{Bool, false, ◌||◌}
use mathlib.Core.List.{List}
use Prim.Native.Nat.{ℕ, ◌+◌, ◌*◌, ◌≤◌}
use lib.ListN.{length}
use borrow.Author.Tests.{eq-eqb}
use Rattle.events.specs.Refusal.{first_of}
use Rattle.image.specs.Layout.{part_of}
use Rattle.image.specs.Check.{bad_status, bad_body, bad_statuses, bad_bodies, bad_words, bad_pointers, content_refusal}
use Rattle.image.specs.CheckLaws.{or_left, or_right}
use Rattle.image.specs.Claims.{Marked, bad_marked_words, bad_descriptors}
use Rattle.image.proofs.ClaimLaws.{below_either, marked_words}

pub descriptors_either : (n k : ℕ) (x : List ℕ) → bad_descriptors n k x ≡ (bad_statuses n k x || bad_bodies n k x)
descriptors_either n k x = below_either (λ d. bad_status (part_of x n d)) (λ d. bad_body n (part_of x n d)) k

pub none_refused : (n k : ℕ) (x : List ℕ) (m : List Bool) (t u : Bool) → n ≤ 64 → Marked n k x m → length x ≡ 8 * n + 112 * k → t ≡ bad_descriptors n k x → t ≡ false
    → u ≡ bad_marked_words n x m → u ≡ false → 0 ≡ content_refusal n k x
unfolding content_refusal first_of
none_refused n k x m t u l h o e f g i =
    let a : (bad_statuses n k x || bad_bodies n k x) ≡ false = sym (descriptors_either n k x) ∙ (sym e ∙ f) in
    let b : (bad_words n x || bad_pointers n k x) ≡ false = sym (marked_words n k x m l h) ∙ (sym g ∙ i) in
    let c = or_left (bad_statuses n k x) (bad_bodies n k x) a in
    let d = or_right (bad_statuses n k x) (bad_bodies n k x) a in
    let p = or_left (bad_words n x) (bad_pointers n k x) b in
    let q = or_right (bad_words n x) (bad_pointers n k x) b in
    rw (eq-eqb _ _ o, c, d, p, q)

-- A word or a status stored is read there; every other word and every other descriptor's bytes are as they were.
use Rattle.std.specs.Prelude.{◌≡◌, refl, Bool, true, false, List, ℕ, ◌+◌, ◌<◌, ◌≤◌, ◌^◌, ltb, length, get_or, take, drop}
use Rattle.std.proofs.Common.{sym, ap, ◌∙◌, length-drop, length-take-le, get_or-take, get_or-drop, ext_get_or, le-leb, ltb-true, ltb-false}
use native.Mathlib.Omega.{arith}
use Rattle.word.specs.declared.Sort.{Sort}
use Rattle.word.specs.declared.Sort.TheVariants.{Plain}
use Rattle.word.specs.declared.Status.{Status}
use Rattle.word.specs.declared.Status.TheVariants.{Free}
use Rattle.word.specs.Word.{sort_of, word_number}
use Rattle.word.specs.Status.{status_of, status_number}
use Rattle.word.specs.Laws.{word_made}
use Rattle.little.specs.Number.{number_of, number_at, with_number}
use Rattle.little.specs.Laws.{number_length, number_stored, number_before, number-after, byte_before, byte_after}
use Rattle.image.specs.Layout.{Sized, word_place, word_of, with_word, descriptor_place, part_of, status_in, count_in, with_status}

-- a part depends on the length and on its 112 bytes alone
pub same_part : (x y : List ℕ) (p : ℕ) → length y ≡ length x → p + 112 ≤ length x
    → ((i : ℕ) → p ≤ i → i < p + 112 → get_or y i 0 ≡ get_or x i 0)
    → take 112 (drop p y) ≡ take 112 (drop p x)
same_part x y p e h f =
    let a : length (take 112 (drop p x)) ≡ 112 = length-take-le 112 (drop p x) (simp length-drop (omega arith)) in
    let b : length (take 112 (drop p y)) ≡ 112 = length-take-le 112 (drop p y) (simp length-drop (omega arith)) in
    ext_get_or 0 (take 112 (drop p y)) (take 112 (drop p x)) (b ∙ sym a)
    (λ i l.
    let m : i < 112 = omega arith in
    get_or-take 112 (drop p y) i 0 m ∙ get_or-drop p y i 0 ∙ f (p + i) (omega arith) (omega arith) ∙ sym (get_or-drop p x i 0) ∙ sym (get_or-take 112 (drop p x) i 0 m))

-- a number of a part is a number of the image
pub part_number : (x : List ℕ) (p q : ℕ) → p + 112 ≤ length x → q + 8 ≤ 112 → number_at (take 112 (drop p x)) q ≡ number_at x (p + q)
unfolding number_at
part_number x p q h l =
    let a : length (take 112 (drop p x)) ≡ 112 = length-take-le 112 (drop p x) (simp length-drop (omega arith)) in
    let b : q + 8 ≤ length (take 112 (drop p x)) = omega arith in
    let c : p + q + 8 ≤ length x = omega arith in
    let d : length (take 8 (drop q (take 112 (drop p x)))) ≡ 8 = length-take-le 8 (drop q (take 112 (drop p x))) (simp length-drop (omega arith)) in
    let e : length (take 8 (drop (p + q) x)) ≡ 8 = length-take-le 8 (drop (p + q) x) (simp length-drop (omega arith)) in
    let same : take 8 (drop q (take 112 (drop p x))) ≡ take 8 (drop (p + q) x) = ext_get_or 0 (take 8 (drop q (take 112 (drop p x)))) (take 8 (drop (p + q) x)) (d ∙ sym e)
    (λ i g.
    let m : i < 8 = omega arith in
    let n : q + i < 112 = omega arith in
    let z : p + (q + i) ≡ p + q + i = omega arith in
    get_or-take 8 (drop q (take 112 (drop p x))) i 0 m
    ∙ get_or-drop q (take 112 (drop p x)) i 0
    ∙ get_or-take 112 (drop p x) (q + i) 0 n
    ∙ get_or-drop p x (q + i) 0
    ∙ ap (λ (j : ℕ). get_or x j 0) z
    ∙ sym (get_or-drop (p + q) x i 0)
    ∙ sym (get_or-take 8 (drop (p + q) x) i 0 m)) in
    rw (le-leb _ _ b, le-leb _ _ c) (ap number_of same)

module _ (n k : ℕ) (x : List ℕ) (z : Sized n k x) where
  fits : (d : ℕ) → d < k → descriptor_place n d + 112 ≤ length x
  fits d h = let e = z.bytes in omega arith

  module _ (a : ℕ) (h : a < n) where
    -- the word stored
    pub word_stored : (v : ℕ) → v < 2 ^ 61 → word_of (with_word x a (Plain v false)) a ≡ Plain v false
    word_stored v l =
        let e = z.bytes in
        let r : word_number (Plain v false) < 2 ^ 64 = omega arith in
        rw (number_stored x (word_place a) (word_number (Plain v false)) (omega arith) r) (word_made (Plain v false) l)

    pub word_other : (s : Sort) (b : ℕ) → (a ≡ b → ⊥) → word_of (with_word x a s) b ≡ word_of x b
    word_other s b g = ap sort_of (go (ltb a b) refl)
      where
        go : (t : Bool) → ltb a b ≡ t → number_at (with_number x (word_place a) (word_number s)) (word_place b) ≡ number_at x (word_place b)
        go true f = let l = ltb-true a b f in number-after x (word_place a) (word_number s) (word_place b) (omega arith)
        go false f = let l = ltb-false a b f in number_before x (word_place a) (word_number s) (word_place b) (omega arith)

    pub part_word : (s : Sort) (d : ℕ) → d < k → part_of (with_word x a s) n d ≡ part_of x n d
    part_word s d l =
        same_part x (with_word x a s) (descriptor_place n d) (number_length x (word_place a) (word_number s)) (fits d l)
        (λ i p q. byte_after x (word_place a) (word_number s) i (omega arith))

  module _ (d : ℕ) (h : d < k) where
    status_stored_number : number_at (with_status x n d Free) (descriptor_place n d) ≡ 0
    status_stored_number = let f = fits d h in number_stored x (descriptor_place n d) 0 (omega arith) (omega arith)

    new_fits : descriptor_place n d + 112 ≤ length (with_status x n d Free)
    new_fits = let f = fits d h in let e = number_length x (descriptor_place n d) (status_number Free) in omega arith

    -- the status stored
    pub status_freed : status_in (part_of (with_status x n d Free) n d) ≡ Free
    unfolding status_of
    status_freed =
        let y : descriptor_place n d + 0 ≡ descriptor_place n d = omega arith in
        rw (part_number (with_status x n d Free) (descriptor_place n d) 0 new_fits (omega arith), y, status_stored_number)

    pub count_kept : count_in (part_of (with_status x n d Free) n d) ≡ count_in (part_of x n d)
    count_kept =
        part_number (with_status x n d Free) (descriptor_place n d) 8 new_fits (omega arith)
        ∙ number-after x (descriptor_place n d) (status_number Free) (descriptor_place n d + 8) (omega arith)
        ∙ sym (part_number x (descriptor_place n d) 8 (fits d h) (omega arith))

    pub word_status : (s : Status) (b : ℕ) → b < n → word_of (with_status x n d s) b ≡ word_of x b
    word_status s b l = ap sort_of (number_before x (descriptor_place n d) (status_number s) (word_place b) (omega arith))

    pub part_status : (s : Status) (e : ℕ) → e < k → (d ≡ e → ⊥) → part_of (with_status x n d s) n e ≡ part_of x n e
    part_status s e l g =
        same_part x (with_status x n d s) (descriptor_place n e) (number_length x (descriptor_place n d) (status_number s)) (fits e l) (go (ltb d e) refl)
      where
        go : (t : Bool) → ltb d e ≡ t → (i : ℕ) → descriptor_place n e ≤ i → i < descriptor_place n e + 112
            → get_or (with_number x (descriptor_place n d) (status_number s)) i 0 ≡ get_or x i 0
        go true f i p q = let m = ltb-true d e f in byte_after x (descriptor_place n d) (status_number s) i (omega arith)
        go false f i p q = let m = ltb-false d e f in byte_before x (descriptor_place n d) (status_number s) i (omega arith)

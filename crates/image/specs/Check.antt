-- The checks of an image, 1 and 20 to 24, "the first in this order", each over the whole image before the next (document 01, "Images for the C runtime";
-- readings 25 to 27).
use Rattle.std.specs.Prelude.{ℕ, zero, suc, ◌+◌, ◌*◌, ◌^◌, Bool, true, false, not, ◌&&◌, ◌||◌, List, [], ◌∷◌, eqb, length}
use Rattle.word.specs.declared.Sort.{Sort}
use Rattle.word.specs.declared.Sort.TheVariants.{Plain, Pointer, Neither}
use Rattle.word.specs.declared.Status.{Status}
use Rattle.word.specs.declared.Status.TheVariants.{Free, Undecided, Decided, Bad}
use Rattle.steps.specs.declared.Entry.{Entry}
use Rattle.steps.specs.Plan.{is_free}
use Rattle.memory.specs.Fresh.{within}
use Rattle.events.specs.Refusal.{Check, check, first_of, not_below}
use Rattle.image.specs.Layout.{word_of, part_of, status_in, count_in, entry_in}

-- one of the numbers below n
unfoldable pub some_below : ℕ → (ℕ → Bool) → Bool
some_below zero f = false
some_below (suc i) f = some_below i f || f i

-- 1: n is 1 to 64, k is 1 to 16
abbrev pub bad_sizes : ℕ → ℕ → Bool
bad_sizes n k = not (within n 64 && within k 16)

-- 20: "length is not 8n+112k"
abbrev pub bad_length : ℕ → ℕ → List ℕ → Bool
bad_length n k x = not (eqb (length x) (8 * n + 112 * k))

-- 21: "a bad status"
abbrev pub is_bad : Status → Bool
is_bad Free = false
is_bad Undecided = false
is_bad (Decided o dirty) = false
is_bad (Bad v) = true

abbrev pub bad_status : List ℕ → Bool
bad_status p = is_bad (status_in p)

-- 22: "a non-Free body with count not 1 to 4, addresses not ascending or not below n, or values not below 2^61"; entries past the count are not looked at
unfoldable pub bad_entry : ℕ → Entry → Bool
bad_entry n e = not_below e.address n || (not_below e.expected (2 ^ 61) || not_below e.desired (2 ^ 61))

-- entry i, and its address against the one before it
unfoldable pub bad_at : ℕ → List ℕ → ℕ → Bool
bad_at n p zero = bad_entry n (entry_in p 0)
bad_at n p (suc i) = bad_entry n (entry_in p (suc i)) || not_below (entry_in p i).address (entry_in p (suc i)).address

unfoldable pub bad_body : ℕ → List ℕ → Bool
bad_body n p = not (is_free (status_in p)) && (not (within (count_in p) 4) || some_below (count_in p) (λ i. bad_at n p i))

-- 23: "a word that is neither plain nor pointer in form"
abbrev pub is_neither : Sort → Bool
is_neither (Plain v dirty) = false
is_neither (Pointer d dirty) = false
is_neither (Neither w) = true

-- 24: "a pointer to a number not below k, to a Free descriptor, or to one without that address"
unfoldable pub has_within : List ℕ → ℕ → ℕ → Bool
has_within p c a = some_below c (λ i. eqb (entry_in p i).address a)

abbrev pub has_address : List ℕ → ℕ → Bool
has_address p a = has_within p (count_in p) a

unfoldable pub bad_target : ℕ → ℕ → List ℕ → ℕ → ℕ → Bool
bad_target n k x a d = not_below d k || (is_free (status_in (part_of x n d)) || not (has_address (part_of x n d) a))

abbrev pub bad_pointer : ℕ → ℕ → List ℕ → ℕ → Sort → Bool
bad_pointer n k x a (Plain v dirty) = false
bad_pointer n k x a (Pointer d dirty) = bad_target n k x a d
bad_pointer n k x a (Neither w) = false

unfoldable pub bad_pointer_at : ℕ → ℕ → List ℕ → ℕ → Bool
bad_pointer_at n k x a = bad_pointer n k x a (word_of x a)

-- 21 to 24, each over the whole image
abbrev pub bad_statuses : ℕ → ℕ → List ℕ → Bool
bad_statuses n k x = some_below k (λ d. bad_status (part_of x n d))

abbrev pub bad_bodies : ℕ → ℕ → List ℕ → Bool
bad_bodies n k x = some_below k (λ d. bad_body n (part_of x n d))

abbrev pub bad_words : ℕ → List ℕ → Bool
bad_words n x = some_below n (λ a. is_neither (word_of x a))

abbrev pub bad_pointers : ℕ → ℕ → List ℕ → Bool
bad_pointers n k x = some_below n (λ a. bad_pointer_at n k x a)

-- "Refused exactly when one of these holds, the first in this order"
abbrev pub content_checks : ℕ → ℕ → List ℕ → List Check
content_checks n k x =
    check 20 (bad_length n k x) ∷
    check 21 (bad_statuses n k x) ∷
    check 22 (bad_bodies n k x) ∷
    check 23 (bad_words n x) ∷
    check 24 (bad_pointers n k x) ∷
    []

abbrev pub image_checks : ℕ → ℕ → List ℕ → List Check
image_checks n k x = check 1 (bad_sizes n k) ∷ content_checks n k x

unfoldable pub content_refusal : ℕ → ℕ → List ℕ → ℕ
content_refusal n k x = first_of (content_checks n k x)

-- the refusal's number; 0 where there is none
unfoldable pub image_refusal : ℕ → ℕ → List ℕ → ℕ
image_refusal n k x = first_of (image_checks n k x)

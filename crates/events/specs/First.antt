-- The first refusal of a table that holds, found one after the other.
use Rattle.std.specs.Prelude.{◌≡◌, refl, Bool, true, false, cond, not, ◌&&◌, List, [], ◌∷◌, ◌++◌, ℕ, eqb}
use Rattle.std.proofs.Math.Bool.{and-eq-true_iff}
use Rattle.std.proofs.lemmas.Bool.{not-true, eqb-false}
use Rattle.events.specs.Refusal.{Check, check, first_of, or_else}

-- no number of the table is 0
abbrev pub numbered : List Check → Bool
numbered [] = true
numbered (c ∷ cs) = not (eqb c.number 0) && numbered cs

-- what holds of both
pub both : (s t : Bool) → (s && t) ≡ true → (s ≡ true) × (t ≡ true)
both s t = (and-eq-true_iff s t).0

pub and_first : (s t : Bool) → (s && t) ≡ true → s ≡ true
and_first s t e = (both s t e).0

pub and_second : (s t : Bool) → (s && t) ≡ true → t ≡ true
and_second s t e = (both s t e).1

-- one more check at the end of a table
pub first_then : (cs : List Check) (n : ℕ) (t : Bool) → numbered cs ≡ true → or_else (first_of cs) n t ≡ first_of (cs ++ check n t ∷ [])
unfolding first_of
first_then [] n t e = refl
first_then (c ∷ cs) n t e =
    go
    c.holds
    (not-true (eqb c.number 0) (and_first (not (eqb c.number 0)) (numbered cs) e))
    (first_then cs n t (and_second (not (eqb c.number 0)) (numbered cs) e))
  where
    go : (h : Bool) → eqb c.number 0 ≡ false → or_else (first_of cs) n t ≡ first_of (cs ++ check n t ∷ [])
        → or_else (cond h c.number (first_of cs)) n t ≡ cond h c.number (first_of (cs ++ check n t ∷ []))
    go true z r = simp z
    go false z r = r

-- r is the number of the first check of the table that holds: it holds, and none before it does
pub data Gives : List Check → ℕ → Type 0 where
  here : {c : Check} {cs : List Check} → c.holds ≡ true → Gives (c ∷ cs) c.number
  later : {c : Check} {cs : List Check} {r : ℕ} → c.holds ≡ false → Gives cs r → Gives (c ∷ cs) r

pub gives_first : (cs : List Check) (r : ℕ) → Gives cs r → first_of cs ≡ r
unfolding first_of
gives_first [] r x' = elim x' [ ]
gives_first (c ∷ cs) r (here e) = rw e
gives_first (c ∷ cs) r (later e g) = rw e (gives_first cs r g)

pub first_gives : (cs : List Check) → (first_of cs ≡ 0 → ⊥) → Gives cs (first_of cs)
unfolding first_of
first_gives [] n = let z : ⊥ = n refl in search
first_gives (c ∷ cs) n = go c.holds refl n (first_gives cs)
  where
    go : (t : Bool) → c.holds ≡ t → (cond t c.number (first_of cs) ≡ 0 → ⊥) → ((first_of cs ≡ 0 → ⊥) → Gives cs (first_of cs))
        → Gives (c ∷ cs) (cond t c.number (first_of cs))
    go true e k f = here e
    go false e k f = later e (f k)

-- where no refusal is given, no check of the table holds
abbrev pub NoneHolds : List Check → Type 0
NoneHolds [] = Unit
NoneHolds (c ∷ cs) = (c.holds ≡ false) × NoneHolds cs

pub none_holds : (cs : List Check) → numbered cs ≡ true → first_of cs ≡ 0 → NoneHolds cs
unfolding first_of
none_holds [] e f = tt
none_holds (c ∷ cs) e f =
    go
    c.holds
    refl
    (eqb-false c.number 0 (not-true (eqb c.number 0) (and_first (not (eqb c.number 0)) (numbered cs) e)))
    (none_holds cs (and_second (not (eqb c.number 0)) (numbered cs) e))
    f
  where
    go : (t : Bool) → c.holds ≡ t → (c.number ≡ 0 → ⊥) → (first_of cs ≡ 0 → NoneHolds cs) → cond t c.number (first_of cs) ≡ 0
        → (c.holds ≡ false) × NoneHolds cs
    go true h n r k = let z : ⊥ = n k in search
    go false h n r k = (h, r k)

-- a number that a table gives is not 0
pub gives_some : (cs : List Check) (r : ℕ) → numbered cs ≡ true → Gives cs r → r ≡ 0 → ⊥
gives_some [] r e x'' = elim x'' [ ]
gives_some (c ∷ cs) r e (here h) = eqb-false c.number 0 (not-true (eqb c.number 0) (and_first (not (eqb c.number 0)) (numbered cs) e))
gives_some (c ∷ cs) r e (later h g) = gives_some cs r (and_second (not (eqb c.number 0)) (numbered cs) e) g

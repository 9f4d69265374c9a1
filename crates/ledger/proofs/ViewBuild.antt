-- Records 02 and 03 on the view: an entry put in, an entry taken out.
use Rattle.std.specs.Prelude.{◌≡◌, refl, ◌≢◌, Bool, true, false, cond, ℕ, Option, zero, suc, ◌+◌, ◌-◌, ◌<◌, ◌≤◌}
use Rattle.std.proofs.Common.{sym, ap, ◌∙◌, subst, arith, lt-ltb, eq-eqb, None, Some}
use Rattle.std.proofs.Math.Decide.{ℕ_discrete}
use Rattle.steps.specs.declared.Entry.{Entry}
use Rattle.memory.specs.declared.Copy.TheVariants.{Cached}
use Rattle.memory.specs.Block.{Block}
use Rattle.memory.specs.Block.Field.{body}
use Rattle.memory.specs.Content.{count_in, put_count, entry_in, put_entry}
use Rattle.memory.specs.Value.{has_at, entry_for}
use Rattle.memory.specs.Fields.{Whole, body_somewhere, get_put, get_other}
use Rattle.memory.specs.Laws.{same_entry}
use Rattle.memory.specs.StoreLaws.{entry_stored, entry_other, entry_whole}
use Rattle.events.specs.Build.{inserted, added, no_entry, moved_down, removed_entry}
use Rattle.machine.specs.Whole.{inserted_whole, moved_whole}
use Rattle.ledger.specs.Update.{clash}
use Rattle.ledger.specs.Cond.{cond_lt}
use Rattle.ledger.specs.Statement.{body_in}
use Rattle.ledger.specs.Seen.{entry_at, body_length, body_entry}
use Rattle.ledger.proofs.Machine.{PutIn, TakenOut}

-- the cached entries of d
abbrev pub entries : Block → ℕ → ℕ → Entry
entries m d = entry_in Cached m d

abbrev pub address_in : Block → ℕ → ℕ → ℕ
address_in m d i = (entry_in Cached m d i).address

-- an entry stored, the others stay
module _ (m : Block) (d i : ℕ) (e : Entry) where
  pub stored_other : (j : ℕ) → j ≢ i → entries (put_entry m d i e) d j ≡ entries m d j
  stored_other j q = same_entry m (put_entry m d i e) Cached d j (λ t a b. entry_other m d i e (body Cached d t) (λ u x y z. let w : u ≡ t = cc in q (omega arith)))

-- what `inserted` makes of the entries 0 to i: e stands at p, those from p on have moved up
pub record Shifted (m new : Block) (d i : ℕ) (e : Entry) : Type 0 where
  pub p : ℕ
  pub place : p ≤ i
  pub here : entries new d p ≡ e
  pub before : (j : ℕ) → j < p → entries new d j ≡ entries m d j
  pub after : (j : ℕ) → p ≤ j → j < i → entries new d (suc j) ≡ entries m d j
  pub beyond : (j : ℕ) → i < j → entries new d j ≡ entries m d j
  pub lower : (j : ℕ) → suc j ≡ p → address_in m d j ≤ e.address
  pub higher : p < i → e.address < address_in m d p

shifted : (i : ℕ) (m : Block) (d : ℕ) (e : Entry) → Whole m → d < 16 → i < 4 → Shifted m (inserted i m d e) d i e
unfolding inserted
shifted zero m d e h l k = record {
  p = 0;
  place = omega arith;
  here = entry_stored m d 0 e h l k;
  before = λ j q. absurd (omega arith);
  after = λ j q r. absurd (omega arith);
  beyond = λ j q. stored_other m d 0 e j (omega arith);
  lower = λ j q. absurd (omega arith);
  higher = λ q. absurd (omega arith);
}
shifted (suc i) m d e h l k = cond_lt (λ (x : Block). Shifted m x d (suc i) e) e.address (address_in m d i) _ _
    (λ t. moved t (shifted i (put_entry m d (suc i) (entries m d i)) d e (entry_whole m d (suc i) (entries m d i) h) l (omega arith)))
    (λ t. record {
      p = suc i;
      place = omega arith;
      here = entry_stored m d (suc i) e h l k;
      before = λ j q. stored_other m d (suc i) e j (omega arith);
      after = λ j q r. absurd (omega arith);
      beyond = λ j q. stored_other m d (suc i) e j (omega arith);
      lower = λ j q. let z : j ≡ i = omega arith in rw z t;
      higher = λ q. absurd (omega arith);
    })
  where
    m₁ : Block
    m₁ = put_entry m d (suc i) (entries m d i)

    old : (j : ℕ) → j ≢ suc i → entries m₁ d j ≡ entries m d j
    old j q = stored_other m d (suc i) (entries m d i) j q

    old_address : (j : ℕ) → j ≢ suc i → address_in m₁ d j ≡ address_in m d j
    old_address j q = ap (λ (e : Entry). e.address) (old j q)

    moved : {new : Block} → e.address < address_in m d i → Shifted m₁ new d i e → Shifted m new d (suc i) e
    moved t s = record {
      p = s.p;
      place = omega (arith, s.place);
      here = s.here;
      before = λ j q. s.before j q ∙ old j (omega (arith, s.place));
      after = λ j q r. elim (ℕ_discrete j i) [
        | yes z ↦ rw z (s.beyond (suc i) (omega arith) ∙ entry_stored m d (suc i) (entries m d i) h l k)
        | no z ↦ s.after j q (omega arith) ∙ old j (omega arith)
      ];
      beyond = λ j q. s.beyond j (omega arith) ∙ old j (omega arith);
      lower = λ j q. subst (λ (x : ℕ). x ≤ e.address) (old_address j (omega (arith, s.place))) (s.lower j q);
      higher = λ q. elim (ℕ_discrete s.p i) [
        | yes z ↦ rw z t
        | no z ↦ subst (λ (x : ℕ). e.address < x) (old_address s.p (omega (arith, s.place))) (s.higher (omega (arith, s.place)))
      ];
    }

-- a count stored: the entries stay
module _ (m : Block) (h : Whole m) (d n : ℕ) (l : d < 16) where
  count_stored : count_in Cached (put_count m d n) d ≡ n
  count_stored = get_put m (body Cached d 0) n h (body_somewhere Cached d 0 l (omega arith))

  count_entry : (j : ℕ) → entries (put_count m d n) d j ≡ entries m d j
  count_entry j = same_entry m (put_count m d n) Cached d j (λ t a b. get_other m (body Cached d 0) n (body Cached d t) (λ z. let w : 0 ≡ t = cc in omega arith))

-- no entry has the address
pub missing_not : (m : Block) (d a : ℕ) → entry_for Cached m d a ≡ None → (j : ℕ) → j < 4 → j < count_in Cached m d → address_in m d j ≢ a
unfolding entry_for
missing_not m d a e j l c p = go (has_at Cached m d a 0) (has_at Cached m d a 1) (has_at Cached m d a 2) (has_at Cached m d a 3) refl refl refl refl e
  where
    at_j : has_at Cached m d a j ≡ true
    at_j = rw (lt-ltb j (count_in Cached m d) c, p) (eq-eqb a a refl)

    which : (i : ℕ) → j ≡ i → has_at Cached m d a i ≡ false → ⊥
    which i q f = let t : has_at Cached m d a i ≡ true = rw (← q) at_j in clash (cc)

    go : (t u v w : Bool) → has_at Cached m d a 0 ≡ t → has_at Cached m d a 1 ≡ u → has_at Cached m d a 2 ≡ v → has_at Cached m d a 3 ≡ w
        → cond {A = Option ℕ} t (Some 0) (cond u (Some 1) (cond v (Some 2) (cond w (Some 3) None))) ≡ None → ⊥
    go true u v w e₀ e₁ e₂ e₃ f = clash (cc)
    go false true v w e₀ e₁ e₂ e₃ f = clash (cc)
    go false false true w e₀ e₁ e₂ e₃ f = clash (cc)
    go false false false true e₀ e₁ e₂ e₃ f = clash (cc)
    go false false false false e₀ e₁ e₂ e₃ f = elim (ℕ_discrete j 0) [
      | yes q ↦ which 0 q e₀
      | no q₀ ↦ elim (ℕ_discrete j 1) [
        | yes q ↦ which 1 q e₁
        | no q₁ ↦ elim (ℕ_discrete j 2) [ yes q ↦ which 2 q e₂ | no q₂ ↦ which 3 (omega arith) e₃ ]
      ]
    ]

-- 02
module _ (m : Block) (h : Whole m) (d : ℕ) (l : d < 16) (e : Entry) (room : count_in Cached m d < 4) (new-one : entry_for Cached m d e.address ≡ None) where
  abbrev c : ℕ
  c = count_in Cached m d

  pub shift : Shifted m (inserted c m d e) d c e
  shift = shifted c m d e h l room

  abbrev out : Block
  out = put_count (inserted c m d e) d (c + 1)

  added_is : added m d e ≡ out
  unfolding added
  added_is = rw (lt-ltb c 4 room)

  out_count : count_in Cached out d ≡ c + 1
  out_count = count_stored (inserted c m d e) (inserted_whole c m d e h) d (c + 1) l

  out_entry : (j : ℕ) → entries out d j ≡ entries (inserted c m d e) d j
  out_entry j = count_entry (inserted c m d e) (inserted_whole c m d e h) d (c + 1) l j

  -- entry j of the new body, of the old one
  new_at : (j : ℕ) → j < c + 1 → entry_at (body_in Cached out d) j ≡ entries (inserted c m d e) d j
  new_at j q = body_entry Cached out d j (rw out_count q) ∙ out_entry j

  old_at : (j : ℕ) → j < c → entry_at (body_in Cached m d) j ≡ entries m d j
  old_at j q = body_entry Cached m d j q

  pub put_in : PutIn shift.p e (body_in Cached m d) (body_in Cached (added m d e) d)
  put_in = rw added_is (record {
    size = let z : c + 1 ≡ suc c = omega arith in body_length Cached out d ∙ out_count ∙ z ∙ ap suc (sym (body_length Cached m d));
    place = rw (body_length Cached m d) shift.place;
    here = new_at shift.p (omega (arith, shift.place)) ∙ shift.here;
    before = λ j q. new_at j (omega (arith, shift.place)) ∙ shift.before j q ∙ sym (old_at j (omega (arith, shift.place)));
    after = λ j q r. let s : j < c = rw (body_length Cached m d) at r in new_at (suc j) (omega arith) ∙ shift.after j q s ∙ sym (old_at j s);
    lower = λ j q. rw (old_at j (omega (arith, shift.place)))
        (let x = shift.lower j q in let y = missing_not m d e.address new-one j (omega (arith, shift.place)) (omega (arith, shift.place)) in omega arith);
    higher = λ r. let s : shift.p < c = rw (body_length Cached m d) at r in rw (old_at shift.p s) (shift.higher s);
  })

-- what `moved_down` makes of the entries: those after i, n of them, have moved down
record Closed (m new : Block) (d i n : ℕ) : Type 0 where
  before : (j : ℕ) → j < i → entries new d j ≡ entries m d j
  after : (j : ℕ) → i ≤ j → j < i + n → entries new d j ≡ entries m d (suc j)

closed : (n : ℕ) (m : Block) (d i : ℕ) → Whole m → d < 16 → i + n < 4 → Closed m (moved_down n m d i) d i n
unfolding moved_down
closed zero m d i h l k = record { before = λ j q. stored_other m d i no_entry j (omega arith); after = λ j q r. absurd (omega arith) }
closed (suc n) m d i h l k = moved (closed n (put_entry m d i (entries m d (suc i))) d (suc i) (entry_whole m d i (entries m d (suc i)) h) l (omega arith))
  where
    moved : {new : Block} → Closed (put_entry m d i (entries m d (suc i))) new d (suc i) n → Closed m new d i (suc n)
    moved s = record {
      before = λ j q. s.before j (omega arith) ∙ stored_other m d i (entries m d (suc i)) j (omega arith);
      after = λ j q r. elim (ℕ_discrete j i) [
        | yes z ↦ rw z (s.before i (omega arith) ∙ entry_stored m d i (entries m d (suc i)) h l (omega arith))
        | no z ↦ s.after j (omega arith) (omega arith) ∙ stored_other m d i (entries m d (suc i)) (suc j) (omega arith)
      ];
    }

-- 03
module _ (m : Block) (h : Whole m) (d : ℕ) (l : d < 16) (i : ℕ) (there : i < count_in Cached m d) (small : count_in Cached m d ≤ 4) where
  abbrev size : ℕ
  size = count_in Cached m d

  abbrev low : Block
  low = moved_down (size - 1 - i) m d i

  abbrev less : Block
  less = put_count low d (size - 1)

  removed_is : removed_entry m d i ≡ less
  unfolding removed_entry
  removed_is = rw (lt-ltb i size there)

  less_count : count_in Cached less d ≡ size - 1
  less_count = count_stored low (moved_whole (size - 1 - i) m d i h) d (size - 1) l

  less_at : (j : ℕ) → j < size - 1 → entry_at (body_in Cached less d) j ≡ entries low d j
  less_at j q = body_entry Cached less d j (rw less_count q) ∙ count_entry low (moved_whole (size - 1 - i) m d i h) d (size - 1) l j

  close : Closed m low d i (size - 1 - i)
  close = closed (size - 1 - i) m d i h l (omega arith)

  pub taken_out : TakenOut i (body_in Cached m d) (body_in Cached (removed_entry m d i) d)
  taken_out = rw removed_is (record {
    size = let z : suc (size - 1) ≡ size = omega arith in ap suc (body_length Cached less d ∙ less_count) ∙ z ∙ sym (body_length Cached m d);
    before = λ j q. less_at j (omega arith) ∙ close.before j q ∙ sym (body_entry Cached m d j (omega arith));
    after = λ j q r. let s : j < size - 1 = rw (body_length Cached less d ∙ less_count) at r in
        less_at j s ∙ close.after j q (omega arith) ∙ sym (body_entry Cached m d (suc j) (omega arith));
  })

-- The answers of operations: S has its instant, F has none and saw the ledger differ from one of its expected values.
use Rattle.std.specs.Prelude.{◌≡◌, refl, ◌≢◌, Bool, true, false, List, ◌∷◌, ℕ, suc, ◌≤◌, ◌<◌, length}
use Rattle.std.proofs.Common.{sym, ◌∙◌, subst, arith}
use Rattle.std.proofs.Math.Path.{ap}
use Rattle.std.proofs.Math.Decide.{dec_lt, ℕ_discrete}
use Rattle.word.specs.declared.Outcome.{Outcome}
use Rattle.word.specs.declared.Outcome.TheVariants.{Succeeded, Failed}
use Rattle.word.specs.declared.Status.TheVariants.{Free}
use Rattle.steps.specs.declared.Entry.{Entry}
use Rattle.memory.specs.declared.Copy.TheVariants.{Cached, Persisted}
use Rattle.memory.specs.Block.{Block}
use Rattle.memory.specs.Content.{status_in, count_in, entry_in, worker_in}
use Rattle.memory.specs.Value.{is_success}
use Rattle.events.specs.declared.Event.{Event}
use Rattle.events.specs.declared.Event.TheVariants.{Submit, Step}
use Rattle.events.specs.declared.Answer.TheVariants.{Ok, Answered}
use Rattle.ledger.specs.Statement.{body_in, memory_at, Happens, Operation, AsSubmitted, enters, ledger}
use Rattle.ledger.specs.Statement as S
use Rattle.ledger.specs.Update.{clash, upd_same, upd_other}
use Rattle.ledger.specs.Cells.{Body, Cells}
use Rattle.ledger.specs.View.{cells_of, view}
use Rattle.ledger.specs.Seen.{entry_at, address_at, body_length, body_entry}
use Rattle.ledger.specs.Meaning.{Has, here, later, expected_of}
use Rattle.ledger.specs.StatusRules.{fires}
use Rattle.ledger.specs.Fire.{fires_same}
use Rattle.ledger.proofs.Moments.{since, in_ledger, Differed, sent}
use Rattle.ledger.proofs.Clauses.{still}
use Rattle.ledger.proofs.Instant.{inv, fired}
use Rattle.ledger.proofs.Course.{turn_submits}
use Rattle.ledger.proofs.Last.{turn_answers, last_knows}
use Rattle.ledger.proofs.Operations.{turn_at, answers, running}
use Rattle.ledger.proofs.Once.{free_none, as_submitted, flag_set, flag_since}

-- an address of a body is that of an entry, which is expected there
abbrev EntryFor : Body → ℕ → Type 0
EntryFor b a = (j : ℕ) × (j < length b) × (a ≡ address_at b j) × (expected_of b a ≡ (entry_at b j).expected)

entry-for : (b : Body) (a : ℕ) → Has b a → EntryFor b a
unfolding expected_of
entry-for mathlib.Core.List.[] a x' = elim x' [ ]
entry-for (e ∷ b) a (here p) = (0, omega arith, p, rw p (upd_same (expected_of b) e.address e.expected))
entry-for (e ∷ b) a (later h) = go (ℕ_discrete a e.address) (entry-for b a h)
  where
    go : Dec (a ≡ e.address) → EntryFor b a → EntryFor (e ∷ b) a
    go (yes p) z = (0, omega arith, p, rw p (upd_same (expected_of b) e.address e.expected))
    go (no p) z = (suc z.0, (let l = z.1 in omega arith), z.2, upd_other (expected_of b) e.address e.expected a p ∙ z.3)

module _ (n k w : ℕ) (nn : n ≤ 64) (kk : k ≤ 16) (ww : w ≤ 8) (kp : 0 < k) (es : List Event) where
  abbrev m : ℕ → Block
  m i = memory_at n k w es i

  -- what the worker that answers knows
  known : (s v d i : ℕ) (o : Outcome) → Operation n k w es s v d i → Happens n k w es i (Step v) (Answered o)
      → (status_in Cached (m i) d ≡ Free) × (in_ledger n k w es i d ≡ is_success o) × (o ≡ Failed → Differed n k w es i d)
  known s v d i o p h =
      let z = turn_answers n k (view (m i)) v o _ _ _ (turn_at n k w nn kk ww kp es i h.there) h.event (answers n k w nn kk ww kp es i (Step v) (Answered o) h) in
      last_knows n k (cells_of (m i)) (in_ledger n k w es i) (Differed n k w es i) (sent n k w es i) (worker_in (m i) v) z.0 z.1 d o z.2
      ((inv n k w nn kk ww kp es i).know v) (running n k w nn kk ww kp es s v d i p).0

  -- an operation that still runs ran before
  earlier : (s v d i t : ℕ) → Operation n k w es s v d i → s < t → t ≤ i → Operation n k w es s v d t
  earlier s v d i t o l g = record { accepted = o.accepted; built = o.built; runs = record { later = l; going = λ u x y. o.runs.going u x (omega arith) } }

  pub success : (s v d i : ℕ) → Operation n k w es s v d i → Happens n k w es i (Step v) (Answered Succeeded)
      → (t : ℕ) × (s < t) × (t < i) × (enters n k w es t d ≡ true) × AsSubmitted n k w es s t d
  success s v d i o h =
      let z = flag_since n k w nn kk ww kp es i d (known s v d i Succeeded o h).1 in
      let p = (running n k w nn kk ww kp es s v d i o).1 in
      let l : s < z.0 = subst (λ (x : ℕ). x < z.0) p z.1 in
      let g = z.2 in
      (z.0, l, z.2, z.3, as_submitted n k w nn kk ww kp es s v z.0 d z.3 (earlier s v d i z.0 o l (omega arith)))

  pub failure : (s v d i : ℕ) → Operation n k w es s v d i → Happens n k w es i (Step v) (Answered Failed) → (t : ℕ) → s ≤ t → t ≤ i → enters n k w es t d ≡ false
  failure s v d i o h t a b = go (enters n k w es t d) refl
    where
      p : since n k w es i d ≡ s
      p = (running n k w nn kk ww kp es s v d i o).1

      none : enters n k w es t d ≡ true → ⊥
      none e = elim (dec_lt t i) [
        | yes l ↦ (let x = flag_set n k w nn kk ww kp es i t d e (let q = p in omega arith) l in let y = (known s v d i Failed o h).1 in clash (cc))
        | no l ↦ (let q : t ≡ i = omega arith in free_none (status_in Cached (m i) d) (status_in Persisted (m i) d) (known s v d i Failed o h).0
            (fired n k w nn kk ww kp es i d (subst (λ (x : ℕ). enters n k w es x d ≡ true) q e)))
      ]

      go : (x : Bool) → enters n k w es t d ≡ x → enters n k w es t d ≡ false
      go true e = absurd (none e)
      go false e = e

  -- a submission does not change the ledger
  same_ledger : (s v : ℕ) → Happens n k w es s (Submit v) Ok → (a : ℕ) → ledger n k w es (suc s) a ≡ ledger n k w es s a
  unfolding enters
  same_ledger s v h = still n k w es s (λ d _. ap (λ (M : Cells). fires (M.status Persisted d) (status_in Persisted (m s) d)) same ∙ fires_same (status_in Persisted (m s) d))
    where
      same : cells_of (m (suc s)) ≡ cells_of (m s)
      same = (turn_submits n k (view (m s)) v 0 _ _ _ (turn_at n k w nn kk ww kp es s h.there) h.event (answers n k w nn kk ww kp es s (Submit v) Ok h)).3

  pub differed : (s v d i : ℕ) → Operation n k w es s v d i → Happens n k w es i (Step v) (Answered Failed)
      → (t : ℕ) × (s < t) × (t ≤ i) × (e : Entry) × S.Has n k w es s d e × (ledger n k w es t e.address ≢ e.expected)
  differed s v d i o h = elim (ℕ_discrete z.0 s) [
    | yes q ↦ (suc s, omega arith, o.runs.later, e, has, λ x. off (rw q (sym (same_ledger s v o.accepted a)) ∙ x))
    | no q ↦ (z.0, (let l = from in omega arith), z.2, e, has, off)
  ]
    where
      z : Differed n k w es i d
      z = (known s v d i Failed o h).2 refl

      p : since n k w es i d ≡ s
      p = (running n k w nn kk ww kp es s v d i o).1

      from : s ≤ z.0
      from = subst (λ (x : ℕ). x ≤ z.0) p z.1

      y : EntryFor (body_in Cached (m s) d) z.3
      y = subst (λ (x : ℕ). EntryFor (body_in Cached (m x) d) z.3) p (entry-for (sent n k w es i d) z.3 z.4)

      j : ℕ
      j = y.0

      e : Entry
      e = entry_in Cached (m s) d j

      a : ℕ
      a = e.address

      small : j < count_in Cached (m s) d
      small = rw (← body_length Cached (m s) d) y.1

      has : S.Has n k w es s d e
      has = (j, small, refl)

      is : entry_at (body_in Cached (m s) d) j ≡ e
      is = body_entry Cached (m s) d j small

      address : z.3 ≡ a
      address = y.2 ∙ ap (λ (x : Entry). x.address) is

      expects : expected_of (sent n k w es i d) z.3 ≡ e.expected
      expects = ap (λ (x : ℕ). expected_of (body_in Cached (m x) d) z.3) p ∙ y.3 ∙ ap (λ (x : Entry). x.expected) is

      off : ledger n k w es z.0 a ≢ e.expected
      off x = z.5 (ap (ledger n k w es z.0) address ∙ x ∙ sym expects)

-- The invariant at every moment of a history, and so: at every moment every word's value is the ledger's.
use Rattle.std.specs.Prelude.{◌≡◌, refl, ◌≢◌, ◌⊎◌, Bool, ◌&&◌, List, ltb, length, get_or}
use Rattle.std.proofs.Math.Path.{sym, ap, subst, fun_ext}
use Rattle.std.proofs.Common.{◌∙◌, inl, inr, ⊎_elim, eq-eqb, ne_eqb, lt-ltb, le-ltb}
use Rattle.std.proofs.Math.Bool.{true, false, cond}
use Prim.Native.Nat.{ℕ, zero, suc, ◌≤◌, ◌<◌}
use native.Mathlib.Omega.{arith}
use Rattle.std.proofs.Math.Decide.{dec_lt}
use Rattle.std.proofs.Math.Dec.{eqb}
use Rattle.steps.specs.declared.Own.TheVariants.{Operation}
use Rattle.steps.specs.declared.Place as P
use Rattle.steps.specs.declared.Worker.{Worker}
use Rattle.steps.specs.declared.Worker.TheVariants.{Building, Working}
use Rattle.memory.specs.declared.Copy.TheVariants.{Cached, Persisted}
use Rattle.memory.specs.Block.{Block}
use Rattle.memory.specs.Content.{status_in, count_in, worker_in}
use Rattle.memory.specs.Value.{value_of}
use Rattle.events.specs.declared.Event.{Event}
use Rattle.events.specs.declared.Event.TheVariants.{Open, Add, Remove, Submit, Discard, Read, Step, BackWord, BackStatus, BackBody, Crash, Recover}
use Rattle.events.specs.declared.Answer.{Answer}
use Rattle.events.specs.declared.Answer.TheVariants.{Ok, Opened, Moved, Helping, Waits, Answered, Shows, Recovering, Recovered, Refused}
use Rattle.events.specs.Build.{build_of}
use Rattle.machine.specs.Apply.{apply_of}
use Rattle.ledger.specs.Statement.{body_in, entered_below, memory_at, enters, ledger}
use Rattle.ledger.specs.Update.{clash}
use Rattle.ledger.specs.Cells.{Body, State, with_worker}
use Rattle.ledger.specs.View.{cells_of, view}
use Rattle.ledger.specs.ViewCrash.{view_fresh}
use Rattle.ledger.specs.Seen.{body_length}
use Rattle.ledger.specs.Meaning.{Has, expected_of}
use Rattle.ledger.specs.StatusRules.{fires}
use Rattle.ledger.specs.Fire.{put_below, fires_same, put_none}
use Rattle.ledger.specs.Read.{entered_cells, value_cells}
use Rattle.ledger.specs.Invariant.{Invariant}
use Rattle.ledger.proofs.Machine.{Turn, Acts, refused, opens, adds, removes, submits, discards, begins as begin, works, reads, clears, backs_word, backs_status, backs_body, crashes, recovers}
use Rattle.ledger.proofs.WorkTurn.{Goal}
use Rattle.ledger.proofs.EventTurn.{same_ok}
use Rattle.ledger.proofs.Turns.{fresh_invariant, turn_ok, submit_ok}
use Rattle.ledger.proofs.History.{memory_next, memory_past, event_turns}

-- an accepted submission of d
abbrev pub is_ok : Answer → Bool
is_ok Ok = true
is_ok (Opened d) = false
is_ok Moved = false
is_ok (Helping e) = false
is_ok Waits = false
is_ok (Answered o) = false
is_ok (Shows v) = false
is_ok Recovering = false
is_ok Recovered = false
is_ok (Refused r) = false

abbrev pub begins : Block → Event → ℕ → Bool
begins m (Open w) d = false
begins m (Add w a x y) d = false
begins m (Remove w a) d = false
begins m (Submit v) d = is_ok (apply_of m (Submit v)).answer && eqb (build_of (worker_in m v)) d
begins m (Discard w) d = false
begins m (Read w a) d = false
begins m (Step w) d = false
begins m (BackWord a) d = false
begins m (BackStatus e) d = false
begins m (BackBody e) d = false
begins m Crash d = false
begins m Recover d = false

and_no : (s t : Bool) → t ≡ false → (s && t) ≡ false
and_no true t e = e
and_no false t e = refl

submit? : (e : Event) → ((v : ℕ) × (e ≡ Submit v)) ⊎ ((v : ℕ) → e ≢ Submit v)
submit? (Open w) = inr (λ v e. clash (cc))
submit? (Add w a x y) = inr (λ v e. clash (cc))
submit? (Remove w a) = inr (λ v e. clash (cc))
submit? (Submit v) = inl (v, refl)
submit? (Discard w) = inr (λ v e. clash (cc))
submit? (Read w a) = inr (λ v e. clash (cc))
submit? (Step w) = inr (λ v e. clash (cc))
submit? (BackWord a) = inr (λ v e. clash (cc))
submit? (BackStatus d) = inr (λ v e. clash (cc))
submit? (BackBody d) = inr (λ v e. clash (cc))
submit? Crash = inr (λ v e. clash (cc))
submit? Recover = inr (λ v e. clash (cc))

begins_none : (m : Block) (e : Event) → ((v : ℕ) → e ≢ Submit v) → (d : ℕ) → begins m e d ≡ false
begins_none m (Open w) n d = refl
begins_none m (Add w a x y) n d = refl
begins_none m (Remove w a) n d = refl
begins_none m (Submit v) n d = absurd (n v refl)
begins_none m (Discard w) n d = refl
begins_none m (Read w a) n d = refl
begins_none m (Step w) n d = refl
begins_none m (BackWord a) n d = refl
begins_none m (BackStatus e) n d = refl
begins_none m (BackBody e) n d = refl
begins_none m Crash n d = refl
begins_none m Recover n d = refl

-- the ledger of the statement is that of the cells
pub below_cells : (k : ℕ) (new : ℕ → Bool) (m : Block) (L : ℕ → ℕ) → ((d : ℕ) → count_in Persisted m d ≤ 4) → entered_below k new m L ≡ put_below k new (λ d. body_in Persisted m d) L
unfolding entered_below put_below
below_cells zero new m L h = refl
below_cells (suc k) new m L h = rw (below_cells k new m L h, fun_ext (entered_cells m k (h k) (put_below k new (λ d. body_in Persisted m d) L)))

module _ (n k w : ℕ) (es : List Event) where
  abbrev m : ℕ → Block
  m i = memory_at n k w es i

  abbrev event : ℕ → Event
  event i = get_or es i Crash

  unfoldable pub begun : ℕ → ℕ → Bool
  begun i d = ltb i (length es) && begins (m i) (event i) d

  -- the event of d's latest submission; whether its operation is in the ledger; its body
  unfoldable pub since : ℕ → ℕ → ℕ
  since zero d = 0
  since (suc i) d = cond (begun i d) i (since i d)

  unfoldable pub in_ledger : ℕ → ℕ → Bool
  in_ledger zero d = false
  in_ledger (suc i) d = cond (begun i d) false (cond (enters n k w es i d) true (in_ledger i d))

  abbrev pub sent : ℕ → ℕ → Body
  sent i d = body_in Cached (m (since i d)) d

  -- the ledger has differed from one of its expected values since
  abbrev pub Differed : ℕ → ℕ → Type 0
  Differed i d = (x : ℕ) × (since i d ≤ x) × (x ≤ i) × (a : ℕ) × Has (sent i d) a × (ledger n k w es x a ≢ expected_of (sent i d) a)

  pub since_old : (i d : ℕ) → begun i d ≡ false → since (suc i) d ≡ since i d
  unfolding since
  since_old i d e = rw e

  pub since_new : (i d : ℕ) → begun i d ≡ true → since (suc i) d ≡ i
  unfolding since
  since_new i d e = rw e

  since_le : (i d : ℕ) → since i d ≤ i
  unfolding since
  since_le zero d = omega arith
  since_le (suc i) d = go (begun i d) (since_le i d)
    where
      go : (t : Bool) → since i d ≤ i → cond t i (since i d) ≤ suc i
      go true h = omega arith
      go false h = omega arith

  differed_old : (i d : ℕ) → begun i d ≡ false → Differed i d → Differed (suc i) d
  differed_old i d e h = rw (since_old i d e) (h.0, h.1, (let l = h.2 in omega arith), h.3, h.4, h.5)

  differed_now : (i d : ℕ) → begun i d ≡ false → (a : ℕ) → Has (sent i d) a → ledger n k w es i a ≢ expected_of (sent i d) a → Differed (suc i) d
  differed_now i d e a h q = rw (since_old i d e) (i, since_le i d, omega arith, a, h, q)

  sent_old : (i d : ℕ) → begun i d ≡ false → sent (suc i) d ≡ sent i d
  sent_old i d e = ap (λ (z : ℕ). body_in Cached (m z) d) (since_old i d e)

  unfoldable pub At : ℕ → Type 0
  At i = Invariant n k (view (m i)) (ledger n k w es i) (in_ledger i) (Differed i) (sent i)

  -- an event that begins nothing
  module _ (nn : n ≤ 64) (kk : k ≤ 16) (ww : w ≤ 8) (kp : 0 < k) (i : ℕ) (I : Invariant n k (view (m i)) (ledger n k w es i) (in_ledger i) (Differed i) (sent i)) where
    small : (d : ℕ) → count_in Persisted (m i) d ≤ 4
    small d = rw (← body_length Persisted (m i) d) (I.fits.body Persisted d).size

    abbrev End : ((d : ℕ) → begun i d ≡ false) → State → Type 0
    End b t = Goal n k I (Differed (suc i)) (sent (suc i)) (λ d. differed_old i d (b d)) (λ d. sent_old i d (b d)) t

    calm : (b : (d : ℕ) → begun i d ≡ false) → End b (view (m (suc i))) → Invariant n k (view (m (suc i))) (ledger n k w es (suc i)) (in_ledger (suc i)) (Differed (suc i)) (sent (suc i))
    unfolding ledger in_ledger enters
    calm b g = subst (λ (f : ℕ → Bool). Invariant n k (view (m (suc i))) (ledger n k w es (suc i)) f (Differed (suc i)) (sent (suc i))) (fun_ext (λ d. sym (flag d)))
        (subst (λ (f : ℕ → ℕ). Invariant n k (view (m (suc i))) f (λ d. cond (enters n k w es i d) true (in_ledger i d)) (Differed (suc i)) (sent (suc i))) (sym (below_cells k (enters n k w es i) (m i) (ledger n k w es i) small)) g.0)
      where
        flag : (d : ℕ) → cond (begun i d) false (cond (enters n k w es i d) true (in_ledger i d)) ≡ cond (enters n k w es i d) true (in_ledger i d)
        flag d = rw (b d)

    pub past_at : length es ≤ i → At (suc i)
    unfolding At begun
    past_at l = calm b (subst (End b) (ap view (sym (memory_past n k w es i l))) (same_ok n k I (Differed (suc i)) (sent (suc i)) (λ d. differed_old i d (b d)) (λ d. sent_old i d (b d)) (λ d a. differed_now i d (b d) a)))
      where
        b : (d : ℕ) → begun i d ≡ false
        b d = rw (le-ltb i (length es) l)

    module _ (l : i < length es) where
      next : m (suc i) ≡ (apply_of (m i) (event i)).memory
      next = memory_next n k w es i l

      -- the turn of event i
      turns : Turn n k (view (m i)) (event i) (view (m (suc i))) (apply_of (m i) (event i)).answer
      turns = subst (λ (x : Block). Turn n k (view (m i)) (event i) (view x) (apply_of (m i) (event i)).answer) (sym next) (event_turns n k w nn kk ww kp es i I (event i))

      other_at : ((v : ℕ) → event i ≢ Submit v) → At (suc i)
      unfolding At begun
      other_at ns = calm b (turn_ok n k I (Differed (suc i)) (sent (suc i)) (λ d. differed_old i d (b d)) (λ d. sent_old i d (b d)) (λ d a. differed_now i d (b d) a) kp (event i) (view (m (suc i))) _ ns turns)
        where
          b : (d : ℕ) → begun i d ≡ false
          b d = and_no (ltb i (length es)) (begins (m i) (event i) d) (begins_none (m i) (event i) ns d)

      -- a submission that is refused, and one that is taken
      refused_at : (v x : ℕ) → event i ≡ Submit v → (apply_of (m i) (Submit v)).answer ≡ Refused x → view (m i) ≡ view (m (suc i)) → At (suc i)
      unfolding At begun
      refused_at v x e r q = calm b (subst (End b) q (same_ok n k I (Differed (suc i)) (sent (suc i)) (λ d. differed_old i d (b d)) (λ d. sent_old i d (b d)) (λ d a. differed_now i d (b d) a)))
        where
          b : (d : ℕ) → begun i d ≡ false
          b d = and_no (ltb i (length es)) (begins (m i) (event i) d) (rw (e, r))

      module _ (v d : ℕ) (e : event i ≡ Submit v) (r : (apply_of (m i) (Submit v)).answer ≡ Ok) (acts : Acts n k (view (m i)) v (Building d)) (some : 0 < length ((cells_of (m i)).body Cached d))
          (q : with_worker (view (m i)) v (Working (Operation d) d P.TheVariants.BackBody) ≡ view (m (suc i))) where
        is : (f : ℕ) → begun i f ≡ eqb d f
        unfolding begun
        is f = rw (lt-ltb i (length es) l, e, r) (ap (λ (x : Worker). eqb (build_of x) f) acts.is)

        new : begun i d ≡ true
        new = is d ∙ eq-eqb d d refl

        old : (f : ℕ) → f ≢ d → begun i f ≡ false
        old f n = is f ∙ ne_eqb d f (λ z. n (sym z))

        enters_none : (f : ℕ) → enters n k w es i f ≡ false
        unfolding enters
        enters_none f = ap (λ (x : State). fires (x.cells.status Persisted f) (status_in Persisted (m i) f)) (sym q) ∙ fires_same (status_in Persisted (m i) f)

        same_ledger : (a : ℕ) → ledger n k w es (suc i) a ≡ ledger n k w es i a
        unfolding ledger
        same_ledger a = ap (λ (f : ℕ → ℕ). f a) (below_cells k (enters n k w es i) (m i) (ledger n k w es i) small ∙ put_none k (enters n k w es i) (λ d. body_in Persisted (m i) d) (ledger n k w es i) (λ f _. enters_none f))

        same_flag : (f : ℕ) → f ≢ d → in_ledger (suc i) f ≡ in_ledger i f
        unfolding in_ledger
        same_flag f n = rw (old f n, enters_none f)

        new_flag : in_ledger (suc i) d ≡ false
        unfolding in_ledger
        new_flag = rw new

        taken_at : At (suc i)
        unfolding At
        taken_at = subst (λ (x : State). Invariant n k x (ledger n k w es (suc i)) (in_ledger (suc i)) (Differed (suc i)) (sent (suc i))) q
            (submit_ok n k I (ledger n k w es (suc i)) (in_ledger (suc i)) (Differed (suc i)) (sent (suc i)) v d acts some same_ledger same_flag (λ f n. differed_old i f (old f n)) (λ f n. sent_old i f (old f n))
            new_flag (ap (λ (z : ℕ). body_in Cached (m z) d) (since_new i d new)))

      submit_at : (v : ℕ) → event i ≡ Submit v → At (suc i)
      submit_at v e = go (event i) (view (m (suc i))) (apply_of (m i) (event i)).answer turns e refl (ap (λ (x : Event). (apply_of (m i) x).answer) (sym e))
        where
          go : (f : Event) (t : State) (r : Answer) → Turn n k (view (m i)) f t r → f ≡ Submit v → t ≡ view (m (suc i)) → (apply_of (m i) (Submit v)).answer ≡ r → At (suc i)
          go f t r (refused g x) p q z = refused_at v x e z q
          go f t r (opens u d a l c b o) p q z = clash (cc)
          go f t r (adds u d j x b a g y l) p q z = clash (cc)
          go f t r (removes u d x j b a y) p q z = clash (cc)
          go f t r (submits u d a o) p q z = let y : u ≡ v = cc in taken_at u d (e ∙ ap Submit (sym y)) (ap (λ (x : ℕ). (apply_of (m i) (Submit x)).answer) y ∙ z) a o q
          go f t r (discards u d a) p q z = clash (cc)
          go f t r (begin u x a o) p q z = clash (cc)
          go f t r (works u o d j x busy a y alone) p q z = clash (cc)
          go f t r (reads u x y a o) p q z = clash (cc)
          go f t r (clears u x y j a o) p q z = clash (cc)
          go f t r (backs_word a o) p q z = clash (cc)
          go f t r (backs_status d o) p q z = clash (cc)
          go f t r (backs_body d o) p q z = clash (cc)
          go f t r crashes p q z = clash (cc)
          go f t r (recovers d j x o y) p q z = clash (cc)

    -- one moment on
    pub next_at : At (suc i)
    next_at = elim (dec_lt i (length es)) [
      | yes l ↦ ⊎_elim (λ z. submit_at l z.0 z.1) (other_at l) (submit? (event i))
      | no l ↦ past_at (omega arith)
    ]

  module _ (nn : n ≤ 64) (kk : k ≤ 16) (ww : w ≤ 8) (kp : 0 < k) where
    -- THE INVARIANT AT EVERY MOMENT
    pub at_every_moment : (i : ℕ) → At i
    unfolding At memory_at ledger in_ledger
    at_every_moment zero = subst (λ (x : State). Invariant n k x (λ a. 0) (λ d. false) (Differed 0) (sent 0)) (sym (view_fresh n k w)) (fresh_invariant n k (Differed 0) (sent 0))
    at_every_moment (suc i) = next_at nn kk ww kp i (at_every_moment i)

    -- at every moment every word's value is the ledger's
    pub always : (i a : ℕ) → value_of (memory_at n k w es i) a ≡ ledger n k w es i a
    unfolding At
    always i a = let I : Invariant n k (view (m i)) (ledger n k w es i) (in_ledger i) (Differed i) (sent i) = at_every_moment i in
        value_cells (m i) (λ d. rw (← body_length Persisted (m i) d) (I.fits.body Persisted d).size) a ∙ I.agrees.value Persisted a

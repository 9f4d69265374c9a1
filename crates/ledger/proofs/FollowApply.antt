-- Every event of the block, refused or not, is a turn of the machine on cells, with the same answer.
use Rattle.std.specs.Prelude.{◌≡◌, Bool, false, cond, ◌&&◌, ltb, leb}
use Rattle.std.proofs.Math.Path.{refl, ap, subst}
use Rattle.std.proofs.Common.{sym, ◌∙◌, arith, leb-false, ltb-true, None, Option, Some, ℕ}
use Rattle.std.proofs.Math.Bool.{true, not}
use Prim.Native.Nat.{ℕ, zero, suc, ◌<◌, ◌≤◌, ◌^◌}
use Rattle.std.proofs.Math.Decide.{ℕ_discrete, dec_lt}
use Rattle.std.proofs.lemmas.Bool.{eqb-false, not-true}
use Rattle.steps.specs.declared.Entry.{Entry}
use Rattle.steps.specs.declared.Worker.{Worker}
use Rattle.steps.specs.declared.Worker.TheVariants.{Idle, Building, Working, Reading, ReadClear}
use Rattle.steps.specs.declared.RecoveryPlace.{RecoveryPlace}
use Rattle.steps.specs.declared.RecoveryPlace.TheVariants.{Outside, At}
use Rattle.steps.specs.Plan.{is_free}
use Rattle.memory.specs.declared.Copy.TheVariants.{Cached, Persisted}
use Rattle.memory.specs.declared.Sizes.{Sizes}
use Rattle.memory.specs.Block.{Block, get}
use Rattle.memory.specs.Content.{status_in, count_in, worker_in, put_worker, recovery_in, clear_body}
use Rattle.memory.specs.Fresh.{sizes_in}
use Rattle.memory.specs.Value.{has_at, entry_for}
use Rattle.memory.specs.Fields.{Whole}
use Rattle.memory.specs.StoreLaws.{cleared_whole}
use Rattle.events.specs.declared.Event.{Event}
use Rattle.events.specs.declared.Event.TheVariants.{Open, Add, Remove, Submit, Discard, Read, Step, BackWord, BackStatus, BackBody, Crash, Recover}
use Rattle.events.specs.declared.Answer.TheVariants.{Ok, Opened}
use Rattle.events.specs.Left.{left}
use Rattle.events.specs.Refusal.{is_recovering, is_idle, is_building, is_missing, checks_of, refusal_of}
use Rattle.events.specs.First.{NoneHolds, none_holds, and_first, and_second}
use Rattle.events.specs.Lowest.{Says, lowest_says}
use Rattle.events.specs.Build.{owns, owned_below, qualifies, lowest_below, opened, build_of, added, removed_entry, removed_at}
use Rattle.machine.specs.Kept.{acted_kept}
use Rattle.machine.specs.Refused.{all_numbered}
use Rattle.machine.specs.Apply.{acted, unless_refused, apply_of}
use Rattle.image.specs.Ends.{is-free}
use Rattle.ledger.specs.Statement.{body_in}
use Rattle.ledger.specs.Update.{clash}
use Rattle.ledger.specs.Cells.{State, with_worker}
use Rattle.ledger.specs.View.{cells_of, view, view_body, view_clear_body, view_put_worker}
use Rattle.ledger.specs.ViewCrash.{past_worker}
use Rattle.ledger.proofs.ViewBuild.{shift, put_in, taken_out}
use Rattle.ledger.specs.Seen.{body_length}
use Rattle.ledger.specs.Fits.{CellsFit, EntryFits}
use Rattle.ledger.proofs.Machine.{Turn, Acts, PutIn, refused, opens, adds, removes, submits, discards, begins}
use Rattle.ledger.specs.Ranges.{below_n, below_k, below_w}
use Rattle.ledger.proofs.Follow.{Follows, WorkerFits, or_no, step_follows, back_word_follows, back_status_follows, back_body_follows, crash_follows, recovery_follows}

-- what the tests of the table say
outside : (p : RecoveryPlace) → is_recovering p ≡ false → p ≡ Outside
outside Outside e = refl
outside (At d s) e = clash (cc)

idle : (x : Worker) → not (is_idle x) ≡ false → x ≡ Idle
idle Idle e = refl
idle (Building d) e = clash (cc)
idle (Working o d p) e = clash (cc)
idle (Reading a) e = clash (cc)
idle (ReadClear a v) e = clash (cc)

building : (x : Worker) → not (is_building x) ≡ false → x ≡ Building (build_of x)
building Idle e = clash (cc)
building (Building d) e = refl
building (Working o d p) e = clash (cc)
building (Reading a) e = clash (cc)
building (ReadClear a v) e = clash (cc)

missing : (f : Option ℕ) → not (is_missing f) ≡ false → f ≡ None
missing (Some i) e = clash (cc)
missing None e = refl

-- nobody among the first workers owns d
owned_no : (m : Block) (d i : ℕ) → owned_below m d i ≡ false → (v : ℕ) → v < i → owns (worker_in m v) d ≡ false
unfolding owned_below
owned_no m d zero e v l = absurd (omega arith)
owned_no m d (suc i) e v l =
    let z = or_no (owned_below m d i) (owns (worker_in m i) d) e in
    elim (ℕ_discrete v i) [ yes p ↦ rw p z.1 | no p ↦ owned_no m d i z.0 v (omega arith) ]

-- the entry that `entry_for` finds is below the count
found_below : (m : Block) (d a i : ℕ) → entry_for Cached m d a ≡ Some i → i < count_in Cached m d
unfolding entry_for
found_below m d a i e = go (has_at Cached m d a 0) (has_at Cached m d a 1) (has_at Cached m d a 2) (has_at Cached m d a 3) refl refl refl refl e
  where
    below : (j : ℕ) → j ≡ i → has_at Cached m d a j ≡ true → i < count_in Cached m d
    below j q t = rw (← q) (ltb-true j (count_in Cached m d) (and_first (ltb j (count_in Cached m d)) _ t))

    go : (t u v w : Bool) → has_at Cached m d a 0 ≡ t → has_at Cached m d a 1 ≡ u → has_at Cached m d a 2 ≡ v → has_at Cached m d a 3 ≡ w
        → cond t (Some 0) (cond u (Some 1) (cond v (Some 2) (cond w (Some 3) None))) ≡ Some i → i < count_in Cached m d
    go true u v w e₀ e₁ e₂ e₃ f = below 0 (cc) e₀
    go false true v w e₀ e₁ e₂ e₃ f = below 1 (cc) e₁
    go false false true w e₀ e₁ e₂ e₃ f = below 2 (cc) e₂
    go false false false true e₀ e₁ e₂ e₃ f = below 3 (cc) e₃
    go false false false false e₀ e₁ e₂ e₃ f = clash (cc)

module _ (n k w : ℕ) (nn : n ≤ 64) (kk : k ≤ 16) (ww : w ≤ 8) (kp : 0 < k) (m : Block) (h : Whole m) (sizes : sizes_in m ≡ record { n = n; k = k; w = w })
    (fit : CellsFit n k (cells_of m)) (workers : (v : ℕ) → WorkerFits n k (cells_of m) (worker_in m v)) (place : (d t : ℕ) → recovery_in m ≡ At d t → d < k) where
  size_k : (sizes_in m).k ≡ k
  size_k = ap (λ (s : Sizes). s.k) sizes

  below_8 : (v : ℕ) → leb (sizes_in m).w v ≡ false → v < 8
  below_8 v e = let z = below_w n k w m sizes v e in omega arith

  acting : (v : ℕ) (x : Worker) → leb (sizes_in m).w v ≡ false → is_recovering (recovery_in m) ≡ false → worker_in m v ≡ x → Acts n k (view m) v x
  acting v x e f p = record { below = below_8 v e; outside = outside (recovery_in m) f; is = p }

  -- 01
  opened_follows : (v : ℕ) (f : Option ℕ) → Says m k f → Acts n k (view m) v Idle → is_missing f ≡ false → Follows n k m (Open v) (opened m v f)
  unfolding qualifies
  opened_follows v None y a e = clash (cc)
  opened_follows v (Some d) y a e = subst (λ (s : State). Turn n k (view m) (Open v) s (Opened d))
      (sym (view_put_worker (clear_body m d) (cleared_whole m d 13 h) v (Building d) a.below ∙ ap (λ (s : State). with_worker s v (Building d)) (view_clear_body m h d (omega (arith, y.below)))))
      (opens v d a y.below (is-free (status_in Cached m d) (and_first _ _ y.does)) (is-free (status_in Persisted m d) (and_first _ _ rest)) nobody)
    where
      rest : (is_free (status_in Persisted m d) && not (owned_below m d 8)) ≡ true
      rest = and_second (is_free (status_in Cached m d)) _ y.does

      nobody : (u : ℕ) → owns (worker_in m u) d ≡ false
      nobody u = elim (dec_lt u 8) [
        | yes l ↦ owned_no m d 8 (not-true _ (and_second (is_free (status_in Persisted m d)) _ rest)) u l
        | no l ↦ rw (past_worker m u (omega arith))
      ]

  -- the descriptor that is being built is below k
  built : (v d : ℕ) → worker_in m v ≡ Building d → d < k
  built v d e = subst (WorkerFits n k (cells_of m)) e (workers v)

  -- 02 and 03
  added_follows : (v : ℕ) (e : Entry) → Acts n k (view m) v (Building (build_of (worker_in m v))) → EntryFits n k e
      → entry_for Cached m (build_of (worker_in m v)) e.address ≡ None → count_in Cached m (build_of (worker_in m v)) < 4
      → Follows n k m (Add v e.address e.expected e.desired) (left (added m (build_of (worker_in m v)) e) Ok)
  added_follows v e a f q l = subst (λ (s : State). Turn n k (view m) (Add v e.address e.expected e.desired) s Ok)
      (sym (view_body (added m d e) m Cached d (λ o z. acted_kept o m (Add v e.address e.expected e.desired) z)))
      (adds v d (shift m h d dl e l q).p e (body_in Cached (added m d e) d) a f p (rw (p.size, body_length Cached m d) (omega arith)))
    where
      d : ℕ
      d = build_of (worker_in m v)

      dl : d < 16
      dl = let z = built v d a.is in omega arith

      p : PutIn (shift m h d dl e l q).p e (body_in Cached m d) (body_in Cached (added m d e) d)
      p = put_in m h d dl e l q

  removed_follows : (v x : ℕ) (f : Option ℕ) → entry_for Cached m (build_of (worker_in m v)) x ≡ f → Acts n k (view m) v (Building (build_of (worker_in m v))) → is_missing f ≡ false
      → Follows n k m (Remove v x) (left (removed_at m (build_of (worker_in m v)) f) Ok)
  removed_follows v x None q a e = clash (cc)
  removed_follows v x (Some i) q a e = subst (λ (s : State). Turn n k (view m) (Remove v x) s Ok)
      (sym (view_body (removed_entry m d i) m Cached d (λ o z. ap (λ (f : Option ℕ). get (removed_at m d f) o) (sym q) ∙ acted_kept o m (Remove v x) z)))
      (removes v d x i (body_in Cached (removed_entry m d i) d) a
      (taken_out m h d (let z = built v d a.is in omega arith) i (found_below m d x i q) (rw (← body_length Cached m d) (fit.body Cached d).size)))
    where
      d : ℕ
      d = build_of (worker_in m v)

  -- a worker alone changes
  worker_follows : (e : Event) (v : ℕ) (x : Worker) → v < 8 → Turn n k (view m) e (with_worker (view m) v x) Ok → Follows n k m e (left (put_worker m v x) Ok)
  worker_follows e v x l t = subst (λ (s : State). Turn n k (view m) e s Ok) (sym (view_put_worker m h v x l)) t

  acted_follows : (e : Event) → NoneHolds (checks_of m e) → Follows n k m e (acted m e)
  acted_follows (Open v) c = rw size_k (opened_follows v (lowest_below m k) (lowest_says m k) (acting v Idle c.0 c.1.0 (idle _ c.1.1.0)) (rw size_k at c.1.1.1.0))
  acted_follows (Add v a x y) c = added_follows v (record { address = a; expected = x; desired = y })
      (acting v _ c.0 c.1.0 (building _ c.1.1.0))
      (let z = or_no _ _ c.1.1.1.1.0 in record { address = below_n n k w m sizes a c.1.1.1.0; expected = leb-false (2 ^ 61) x z.0; desired = leb-false (2 ^ 61) y z.1 })
      (missing _ c.1.1.1.1.1.0) (leb-false 4 _ c.1.1.1.1.1.1.0)
  acted_follows (Remove v a) c = removed_follows v a _ refl (acting v _ c.0 c.1.0 (building _ c.1.1.0)) c.1.1.1.1.0
  acted_follows (Submit v) c = let a = acting v _ c.0 c.1.0 (building _ c.1.1.0) in
      worker_follows (Submit v) v _ a.below (submits v (build_of (worker_in m v)) a (rw (body_length Cached m (build_of (worker_in m v))) (let z = eqb-false (count_in Cached m (build_of (worker_in m v))) 0 c.1.1.1.0 in omega arith)))
  acted_follows (Discard v) c = let a = acting v _ c.0 c.1.0 (building _ c.1.1.0) in worker_follows (Discard v) v Idle a.below (discards v (build_of (worker_in m v)) a)
  acted_follows (Read v a) c = let x = acting v Idle c.0 c.1.0 (idle _ c.1.1.0) in worker_follows (Read v a) v (Reading a) x.below (begins v a x (below_n n k w m sizes a c.1.1.1.0))
  acted_follows (Step v) c = step_follows n k nn kk m h fit v (below_8 v c.0) (outside _ c.1.0) kp (worker_in m v) refl (workers v)
  acted_follows (BackWord a) c = back_word_follows n k nn kk m h fit kp a (below_n n k w m sizes a c.0)
  acted_follows (BackStatus d) c = back_status_follows n k nn kk m h fit d (below_k n k w m sizes d c.0)
  acted_follows (BackBody d) c = back_body_follows n k nn kk m h fit d (below_k n k w m sizes d c.0)
  acted_follows Crash c = crash_follows n k nn kk m h fit
  acted_follows Recover c = rw size_k (recovery_follows n k nn kk m h fit (recovery_in m) refl (λ d t e. place d t e))

  pub apply_follows : (e : Event) → Follows n k m e (apply_of m e)
  unfolding apply_of refusal_of
  apply_follows e = go (refusal_of m e) refl
    where
      go : (r : ℕ) → refusal_of m e ≡ r → Follows n k m e (unless_refused r m e)
      go zero q = acted_follows e (none_holds (checks_of m e) (all_numbered m e) q)
      go (suc r) q = refused e (suc r)

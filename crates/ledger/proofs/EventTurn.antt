-- Opening, editing, discarding, beginning a read, the write-backs and the crash keep the invariant of the machine.
use Rattle.std.specs.Prelude.{◌≡◌, refl, ◌≢◌, Bool, false, [], ℕ, ◌≤◌, ◌<◌, length}
use Rattle.std.proofs.Common.{sym, ◌∙◌, ap, subst, inl, inr, ⊎_elim, arith, eq-eqb, eqb-true}
use Rattle.std.proofs.Math.Path.{fun_ext}
use Rattle.word.specs.declared.Status.{Status}
use Rattle.word.specs.declared.Status.TheVariants.{Free}
use Rattle.steps.specs.declared.Entry.{Entry}
use Rattle.steps.specs.declared.Worker.TheVariants.{Idle, Building, Reading}
use Rattle.steps.specs.declared.RecoveryPlace.{RecoveryPlace}
use Rattle.steps.specs.declared.RecoveryPlace.TheVariants.{Outside, At}
use Rattle.steps.specs.declared.Effect as F
use Rattle.memory.specs.declared.Copy.{Copy}
use Rattle.memory.specs.declared.Copy.TheVariants.{Cached, Persisted}
use Rattle.events.specs.Build.{owns}
use Rattle.ledger.specs.Update.{clash, upd, upd_id, upd_if, upd_in, in_frame}
use Rattle.ledger.specs.Cells.{Cell, Belongs, Body, Cells, State, set_word, set_status, set_body, crashed_cells, with_cells, with_worker, all_idle}
use Rattle.ledger.specs.Fits.{BodyFits, CellsFit, EntryFits, fit_applied}
use Rattle.ledger.specs.Meaning.{Has, expected_of}
use Rattle.ledger.specs.BodyRules
use Rattle.ledger.specs.BodyRules.{forget}
use Rattle.ledger.specs.Rule.{Rule, OwnersOnly}
use Rattle.ledger.specs.Fire.{fires_same, put_none, wrote, wrote_none}
use Rattle.ledger.specs.Still.{Begins}
use Rattle.ledger.specs.Workers.{Concerns, WorkerKnows}
use Rattle.ledger.specs.Invariant.{AsSent, AtEntries, Recovering, Recovery, Invariant}
use Rattle.ledger.proofs.Machine.{Acts, PutIn, TakenOut}
use Rattle.ledger.proofs.Body.{put_fits, take_fits}
use Rattle.ledger.specs.Keep.{live_before, keep_cells, keep_worker}
use Rattle.ledger.proofs.WorkTurn.{L⁺, In⁺, Goal, turn, gl, gi, starts_owner}
use Rattle.ledger.proofs.StepTurn.{alone_free, on-job}

-- recovery's place under the write-backs
module _ (k : ℕ) (s : State) (d t : ℕ) (h : Recovering k s d t) where
  abbrev N : Cells
  N = s.cells

  place_word : (a : ℕ) → Recovering k (with_cells s (set_word N Persisted a (N.word Cached a))) d t
  place_word a = record { below = h.below; quiet = h.quiet; bodies = h.bodies; behind = h.behind; ahead = h.ahead; here = ⊎_elim (λ z. inl (entries z)) (λ z. inr (record { steps = z.steps; cached = z.cached })) h.here }
    where
      entries : AtEntries N d t → AtEntries (set_word N Persisted a (N.word Cached a)) d t
      entries z = record {
        steps = z.steps;
        alike = z.alike;
        begun = z.begun;
        cached = z.cached;
        persisted = λ j l. upd_if (λ (x : Cell). ¬ (Belongs d x)) (N.word Persisted) a _ (N.word Cached a) (λ q. rw (← q) (z.cached j (omega arith))) (λ _. z.persisted j l);
      }

  place_status : (e : ℕ) → Recovering k (with_cells s (set_status N Persisted e (N.status Cached e))) d t
  place_status e = record {
    below = h.below;
    quiet = h.quiet;
    bodies = h.bodies;
    behind = in_frame (λ c f x. f < d → x ≡ Free) Persisted h.behind (h.behind Cached e);
    ahead = λ f l. upd_if (λ (x : Status). N.status Cached f ≡ x) (N.status Persisted) e f (N.status Cached e) (λ q. rw q) (λ _. h.ahead f l);
    here = ⊎_elim (λ z. inl (entries z)) (λ z. inr (record { steps = z.steps; cached = z.cached })) h.here;
  }
    where
      same : AtEntries N d t → upd (N.status Persisted) e (N.status Cached e) d ≡ N.status Persisted d
      same z = upd_if (λ (x : Status). x ≡ N.status Persisted d) (N.status Persisted) e d (N.status Cached e) (λ q. rw (← q) z.alike) (λ _. refl)

      entries : AtEntries N d t → AtEntries (set_status N Persisted e (N.status Cached e)) d t
      entries z = record { steps = z.steps; alike = z.alike ∙ sym (same z); begun = λ q. z.begun (sym (same z) ∙ q); cached = z.cached; persisted = z.persisted }

  -- the bodies are alike in recovery: a write-back of one changes nothing
  place_body : (e : ℕ) → Recovering k (with_cells s (set_body N Persisted e (N.body Cached e))) d t
  place_body e = subst (λ (new : Cells). Recovering k (with_cells s new) d t) (sym same) (record { below = h.below; quiet = h.quiet; bodies = h.bodies; behind = h.behind; ahead = h.ahead; here = h.here })
    where
      go : (c : Copy) → upd_in N.body Persisted e (N.body Cached e) c ≡ N.body c
      go Cached = refl
      go Persisted = upd_id (N.body Persisted) e (N.body Cached e) (sym (h.bodies e))

      same : set_body N Persisted e (N.body Cached e) ≡ N
      same = ap (λ (f : Copy → ℕ → Body). record { word = N.word; status = N.status; body = f }) (fun_ext go)

module _ (n k : ℕ) {s : State} {L : ℕ → ℕ} {In : ℕ → Bool} {Differed : ℕ → Type 0} {Sent : ℕ → Body} (I : Invariant n k s L In Differed Sent)
    (Differed' : ℕ → Type 0) (Sent' : ℕ → Body) (gd : (d : ℕ) → Differed d → Differed' d) (gs : (d : ℕ) → Sent' d ≡ Sent d)
    (seen : (d a : ℕ) → Has (Sent d) a → L a ≢ expected_of (Sent d) a → Differed' d) where
  abbrev M : Cells
  M = s.cells

  abbrev End : State → Type 0
  End t = Goal n k I Differed' Sent' gd gs t

  -- no worker moves, and the rule is nobody's own
  module _ {new : Cells} (r : Rule M In Differed new) (bg : Begins I.agrees (AsSent k Sent) I.bodies r) (fit : CellsFit n k new) (nm : (d : ℕ) → ¬ (OwnersOnly r d)) where
    cells_ok : ((d t : ℕ) → Recovering k s d t → Recovering k (with_cells s new) d t) → End (with_cells s new)
    cells_ok f = (
      keep_cells n k I r bg fit (L⁺ n k I Differed' Sent' gd gs new) (In⁺ n k I Differed' Sent' gd gs new) Differed' Sent'
          (gl n k I Differed' Sent' gd gs r) (gi n k I Differed' Sent' gd gs r) gd gs nm (place s.recovery I.place),
      wrote M In Differed r,
    )
      where
        place : (p : RecoveryPlace) → Recovery k s p → Recovery k (with_cells s new) p
        place Outside h = λ c d l. ⊎_elim (λ z. h z.0 d z.1) (λ z. absurd (nm d (starts_owner r d z))) (live_before r c d l)
        place (At d t) h = f d t h

  pub same_ok : End s
  same_ok = cells_ok Rule.same tt I.fits (λ d z. z) (λ d t h. record { below = h.below; quiet = h.quiet; bodies = h.bodies; behind = h.behind; ahead = h.ahead; here = h.here })

  pub back_word_ok : (a : ℕ) → a < n → End (with_cells s (set_word M Persisted a (M.word Cached a)))
  back_word_ok a an = cells_ok (Rule.back-word a) tt (fit_applied n k M I.fits 0 (F.TheVariants.BackWord a) an) (λ d z. z) (λ d t h. place_word k s d t h a)

  pub back_status_ok : (e : ℕ) → End (with_cells s (set_status M Persisted e (M.status Cached e)))
  back_status_ok e = cells_ok (Rule.back-status e) tt (fit_applied n k M I.fits e F.TheVariants.BackStatus tt) (λ d z. z) (λ d t h. place_status k s d t h e)

  pub back_body_ok : (e : ℕ) → End (with_cells s (set_body M Persisted e (M.body Cached e)))
  back_body_ok e = cells_ok (Rule.back-body e) tt (fit_applied n k M I.fits e F.TheVariants.BackBody tt) (λ d z. z) (λ d t h. place_body k s d t h e)

  -- 0B
  pub crash_ok : 0 < k → End (record { cells = crashed_cells M; worker = all_idle; recovery = At 0 0 })
  crash_ok kp = (
    record {
      agrees = forget (crashed_cells M) L _ In _ Differed Differed' (BodyRules.crash M L In Differed I.agrees)
          (λ a. ap (λ (f : ℕ → ℕ). f a) (put_none k _ (M.body Persisted) L (λ d _. fires_same (M.status Persisted d))))
          (λ d c _. (rw (fires_same (M.status Persisted d)), gd d));
      fits = record { word = λ c. I.fits.word Persisted; status = λ c. I.fits.status Persisted; body = λ c. I.fits.body Persisted };
      bodies = λ c d l. let z = I.bodies Persisted d l in (z.0, z.1 ∙ sym (gs d), z.2);
      one = λ v w d p q. clash (cc);
      know = λ w. tt;
      beyond = λ w l. refl;
      place = record {
        below = kp;
        quiet = λ w. refl;
        bodies = λ e. refl;
        behind = λ c e l. absurd (omega arith);
        ahead = λ e l. refl;
        here = inl (record { steps = omega arith; alike = refl; begun = λ _. refl; cached = λ j l. absurd (omega arith); persisted = λ j l. absurd (omega arith) });
      };
    },
    wrote_none M (crashed_cells M) refl,
  )

  -- 01
  pub open_ok : (w d : ℕ) → Acts n k s w Idle → d < k → M.status Cached d ≡ Free → M.status Persisted d ≡ Free → ((v : ℕ) → owns (s.worker v) d ≡ false)
      → End (with_worker (with_cells s (set_body M Cached d [])) w (Building d))
  open_ok w d acts dk c p nobody = turn n k I Differed' Sent' gd gs (Rule.edit d [] c p) tt fit w (Building d) Idle acts
      (λ e o. let z : d ≡ e = eqb-true d e o in inr (λ v u. let y : owns (s.worker v) e ≡ false = rw (← z) (nobody v) in clash (cc)))
      (λ e o. clash (cc)) (λ e z. absurd z)
      (λ v e q x z. let y : Concerns (s.worker v) d = rw (← z) x in
      ⊎_elim (λ u. let t = nobody v in clash (cc)) (λ u. ⊎_elim (λ o. let t = nobody v in clash (cc)) (λ l. l c) (on-job n k I Differed' Sent' gd gs seen (s.worker v) d (I.know v) u)) y)
      (c, p, dk)
    where
      fit : CellsFit n k (set_body M Cached d [])
      fit = record {
        word = I.fits.word;
        status = I.fits.status;
        body = in_frame (λ c d b. BodyFits n k b) Cached I.fits.body (record { size = omega arith; entry = λ i l. absurd (omega arith); ascending = λ i l. absurd (omega arith) });
      }

  -- 02 and 03: the builder's edits
  edit_ok : (w d : ℕ) (b : Body) → Acts n k s w (Building d) → BodyFits n k b → End (with_cells s (set_body M Cached d b))
  edit_ok w d b acts f = (
    keep_worker n k I r tt fit (L⁺ n k I Differed' Sent' gd gs (set_body M Cached d b)) (In⁺ n k I Differed' Sent' gd gs (set_body M Cached d b)) Differed' Sent' (gl n k I Differed' Sent' gd gs r) (gi n k I Differed' Sent' gd gs r) gd gs
        s.worker w acts.below acts.outside (λ v q. refl) (λ e o. inl o) (λ e o. inl o) (λ e z. absurd z)
        (λ v e q x z. alone_free n k I Differed' Sent' gd gs seen w (Building d) d acts.is (eq-eqb d d refl) h.0 v q (rw (← z) x))
        (rw acts.is h),
    wrote M In Differed r,
  )
    where
      h : WorkerKnows n k M In Differed Sent (Building d)
      h = subst (WorkerKnows n k M In Differed Sent) acts.is (I.know w)

      r : Rule M In Differed (set_body M Cached d b)
      r = Rule.edit d b h.0 h.1

      fit : CellsFit n k (set_body M Cached d b)
      fit = record { word = I.fits.word; status = I.fits.status; body = in_frame (λ c d b. BodyFits n k b) Cached I.fits.body f }

  pub add_ok : (w d i : ℕ) (e : Entry) (new : Body) → Acts n k s w (Building d) → EntryFits n k e → PutIn i e (M.body Cached d) new → length new ≤ 4 → End (with_cells s (set_body M Cached d new))
  add_ok w d i e new acts f p l = edit_ok w d new acts (put_fits n k (M.body Cached d) new (I.fits.body Cached d) i e p f l)

  pub remove_ok : (w d i : ℕ) (new : Body) → Acts n k s w (Building d) → TakenOut i (M.body Cached d) new → End (with_cells s (set_body M Cached d new))
  remove_ok w d i new acts p = edit_ok w d new acts (take_fits n k (M.body Cached d) new (I.fits.body Cached d) i p)

  -- 05 and 06
  pub discard_ok : (w d : ℕ) → Acts n k s w (Building d) → End (with_worker s w Idle)
  discard_ok w d acts = turn n k I Differed' Sent' gd gs Rule.same tt I.fits w Idle (Building d) acts
      (λ e o. clash (cc)) (λ e o. let z : d ≡ e = eqb-true d e o in inr (free e z)) (λ e z. absurd z) (λ v e _ _ z. z) tt
    where
      h : WorkerKnows n k M In Differed Sent (Building d)
      h = subst (WorkerKnows n k M In Differed Sent) acts.is (I.know w)

      free : (e : ℕ) → d ≡ e → (c : Copy) → M.status c e ≡ Free
      free e z Cached = rw (← z) h.0
      free e z Persisted = rw (← z) h.1

  pub read_begins_ok : (w a : ℕ) → Acts n k s w Idle → a < n → End (with_worker s w (Reading a))
  read_begins_ok w a acts an = turn n k I Differed' Sent' gd gs Rule.same tt I.fits w (Reading a) Idle acts (λ e o. clash (cc)) (λ e o. clash (cc)) (λ e z. absurd z) (λ v e _ _ z. z) an

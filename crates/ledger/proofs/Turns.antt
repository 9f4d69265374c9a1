-- The invariant holds of fresh memory, and every turn of the machine on cells keeps it.
use Rattle.std.specs.Prelude.{◌≡◌, refl, ◌≢◌, Bool, false, ℕ, ◌<◌, length}
use Rattle.std.proofs.Common.{sym, ◌∙◌, subst, arith, eq-eqb}
use Rattle.word.specs.declared.Status.TheVariants.{Free}
use Rattle.steps.specs.declared.Own.TheVariants.{Operation}
use Rattle.steps.specs.declared.Place as P
use Rattle.steps.specs.declared.Worker.{Worker}
use Rattle.steps.specs.declared.Worker.TheVariants.{Building, Working}
use Rattle.memory.specs.declared.Copy.{Copy}
use Rattle.memory.specs.declared.Copy.TheVariants.{Cached, Persisted}
use Rattle.events.specs.declared.Event.{Event}
use Rattle.events.specs.declared.Event.TheVariants.{Submit}
use Rattle.events.specs.declared.Answer.{Answer}
use Rattle.ledger.specs.Update.{clash, upd, upd_if, upd_other, upd_case}
use Rattle.ledger.specs.Cells.{Body, State, with_worker}
use Rattle.ledger.specs.ViewCrash.{fresh_state}
use Rattle.ledger.specs.Meaning.{Has, expected_of}
use Rattle.ledger.specs.Agree.{equal}
use Rattle.ledger.specs.BodyRules.{forget}
use Rattle.ledger.specs.Rule
use Rattle.ledger.specs.Workers.{Owns, Concerns, WorkerKnows, worker_lets}
use Rattle.ledger.specs.Invariant.{Recovery, Tended, Invariant}
use Rattle.ledger.proofs.Body.{ascending_proper}
use Rattle.ledger.proofs.Machine.{Turn, Acts, refused, opens, adds, removes, submits, discards, begins, works, reads, clears, backs_word, backs_status, backs_body, crashes, recovers}
use Rattle.ledger.proofs.WorkTurn.{Goal}
use Rattle.ledger.proofs.StepTurn.{read_ok, clear_ok, alone_free}
use Rattle.ledger.proofs.OwnerTurn.{work_ok}
use Rattle.ledger.proofs.EventTurn.{same_ok, back_word_ok, back_status_ok, back_body_ok, crash_ok, open_ok, add_ok, remove_ok, discard_ok, read_begins_ok}
use Rattle.ledger.proofs.RecoveryTurn.{recovery_ok}

pub fresh_invariant : (n k : ℕ) (Differed : ℕ → Type 0) (Sent : ℕ → Body) → Invariant n k fresh_state (λ a. 0) (λ d. false) Differed Sent
fresh_invariant n k Differed Sent = record {
  agrees = record {
    value = λ c a. refl;
    live = λ c a d e. clash (cc);
    pair = λ d. equal Free;
    body = λ c d l. refl;
    failed = λ c d x e. clash (cc);
    entered = λ d l. absurd (l refl);
    waiting = λ d e. refl;
  };
  fits = record {
    word = λ c a. omega arith;
    status = λ c d. tt;
    body = λ c d. record { size = omega arith; entry = λ i l. absurd (omega arith); ascending = λ i l. absurd (omega arith) };
  };
  bodies = λ c d l. absurd (l refl);
  one = λ v w d p q. clash (cc);
  know = λ w. tt;
  beyond = λ w l. refl;
  place = λ c d l. absurd (l refl);
}

module _ (n k : ℕ) {s : State} {L : ℕ → ℕ} {In : ℕ → Bool} {Differed : ℕ → Type 0} {Sent : ℕ → Body} (I : Invariant n k s L In Differed Sent) where
  -- any event but a submission: the ledger and the flags move by the persisted statuses; what has differed stays so, and what was seen to differ has
  pub turn_ok : (Differed' : ℕ → Type 0) (Sent' : ℕ → Body) (gd : (d : ℕ) → Differed d → Differed' d) (gs : (d : ℕ) → Sent' d ≡ Sent d)
      → ((d a : ℕ) → Has (Sent d) a → L a ≢ expected_of (Sent d) a → Differed' d) → 0 < k
      → (e : Event) (t : State) (r : Answer) → ((w : ℕ) → e ≢ Submit w) → Turn n k s e t r → Goal n k I Differed' Sent' gd gs t
  turn_ok D S gd gs seen kp e t r ns (refused f x) = same_ok n k I D S gd gs seen
  turn_ok D S gd gs seen kp e t r ns (opens w d a l c p o) = open_ok n k I D S gd gs seen w d a l c p o
  turn_ok D S gd gs seen kp e t r ns (adds w d i x b a f p l) = add_ok n k I D S gd gs seen w d i x b a f p l
  turn_ok D S gd gs seen kp e t r ns (removes w d x i b a p) = remove_ok n k I D S gd gs seen w d i b a p
  turn_ok D S gd gs seen kp e t r ns (submits w d a l) = absurd (ns w refl)
  turn_ok D S gd gs seen kp e t r ns (discards w d a) = discard_ok n k I D S gd gs seen w d a
  turn_ok D S gd gs seen kp e t r ns (begins w x a l) = read_begins_ok n k I D S gd gs seen w x a l
  turn_ok D S gd gs seen kp e t r ns (works w o d p x busy a v alone) = work_ok n k I D S gd gs seen w o d p x busy a v alone
  turn_ok D S gd gs seen kp e t r ns (reads w x y a z) = read_ok n k I D S gd gs seen w x (subst (WorkerKnows n k s.cells In Differed Sent) a.is (I.know w)) kp y a z
  turn_ok D S gd gs seen kp e t r ns (clears w x u y a z) = clear_ok n k I D S gd gs seen w x (subst (WorkerKnows n k s.cells In Differed Sent) a.is (I.know w)) kp u y a z
  turn_ok D S gd gs seen kp e t r ns (backs_word a l) = back_word_ok n k I D S gd gs seen a l
  turn_ok D S gd gs seen kp e t r ns (backs_status d l) = back_status_ok n k I D S gd gs seen d
  turn_ok D S gd gs seen kp e t r ns (backs_body d l) = back_body_ok n k I D S gd gs seen d
  turn_ok D S gd gs seen kp e t r ns crashes = crash_ok n k I D S gd gs seen kp
  turn_ok D S gd gs seen kp e t r ns (recovers d i x p v) = recovery_ok n k I D S gd gs d i (subst (Recovery k s) p I.place) x v

  -- a submission begins an operation: what is remembered of its descriptor starts anew
  module _ (L' : ℕ → ℕ) (In' : ℕ → Bool) (Differed' : ℕ → Type 0) (Sent' : ℕ → Body) (w b : ℕ) (acts : Acts n k s w (Building b)) (some : 0 < length (s.cells.body Cached b))
      (gl : (a : ℕ) → L' a ≡ L a) (gi : (d : ℕ) → d ≢ b → In' d ≡ In d) (gd : (d : ℕ) → d ≢ b → Differed d → Differed' d) (gs : (d : ℕ) → d ≢ b → Sent' d ≡ Sent d)
      (new_flag : In' b ≡ false) (new-body : Sent' b ≡ s.cells.body Cached b) where
    abbrev x : Worker
    x = Working (Operation b) b P.TheVariants.BackBody

    h : WorkerKnows n k s.cells In Differed Sent (Building b)
    h = subst (WorkerKnows n k s.cells In Differed Sent) acts.is (I.know w)

    -- a live descriptor is another
    live : (c : Copy) (d : ℕ) → s.cells.status c d ≢ Free → d ≢ b
    live Cached d l e = l (rw e h.0)
    live Persisted d l e = l (rw e h.1)

    -- so is one that another worker has to do with
    other : (v d : ℕ) → v ≢ w → Concerns (s.worker v) d → d ≢ b
    other v d q c e = alone_free n k I (λ d. Unit {0}) Sent (λ d z. tt) (λ d. refl) (λ d a m q. tt) w (Building b) b acts.is (eq-eqb b b refl) h.0 v q (rw (← e) c)

    owned : (v d : ℕ) → Owns (upd s.worker w x v) d → Owns (s.worker v) d
    owned v d = upd_if (λ (y : Worker). Owns y d → Owns (s.worker v) d) s.worker w v x (λ e o. rw (e, acts.is) o) (λ _ o. o)

    owning : (v d : ℕ) → Owns (s.worker v) d → Owns (upd s.worker w x v) d
    owning v d o = upd_if (λ (y : Worker). Owns y d) s.worker w v x (λ e. rw (e, acts.is) at o) (λ _. o)

    pub submit_ok : Invariant n k (with_worker s w x) L' In' Differed' Sent'
    submit_ok = record {
      agrees = forget s.cells L L' In In' Differed Differed' I.agrees gl (λ d c l. (gi d (live c d l), gd d (live c d l)));
      fits = I.fits;
      bodies = λ c d l. let z = I.bodies c d l in (z.0, z.1 ∙ sym (gs d (live c d l)), z.2);
      one = λ v u d p q. I.one v u d (owned v d p) (owned u d q);
      know = upd_case (λ (v : ℕ) (y : Worker). WorkerKnows n k s.cells In' Differed' Sent' y)
          (λ v q. worker_lets n k Sent I.agrees Rule.same In' Differed' Sent' (s.worker v)
          (λ d c. let y = other v d q c in record { rule = λ z. z; flag = λ _. gi d y; differed = gd d y; sent = gs d y }) (I.know v))
          (h.2, h.2, rw (eq-eqb b b refl) (record { cached = h.0; persisted = h.1; proper = ascending_proper (s.cells.body Cached b) (I.fits.body Cached b).ascending some; body = sym new-body; out = new_flag }));
      beyond = λ v l. upd_other s.worker w x v (let z = acts.below in omega arith) ∙ I.beyond v l;
      place = rw acts.outside (tended (rw acts.outside at I.place));
    }
      where
        tended : Tended s → Tended (with_worker s w x)
        tended t c d l = let z = t c d l in (z.0, owning z.0 d z.1)

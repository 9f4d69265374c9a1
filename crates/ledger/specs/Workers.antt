-- What each worker knows, and that it stays true while others take rules.
use Rattle.std.specs.Prelude.{◌≡◌, refl, ◌≢◌, ◌⊎◌, Bool, true, false, ℕ, ◌<◌}
use Rattle.std.proofs.Common.{sym, ◌∙◌, inl, inr, eq-eqb}
use Rattle.word.specs.declared.Outcome.TheVariants.{Failed}
use Rattle.word.specs.declared.Status.TheVariants.{Free}
use Rattle.steps.specs.declared.Place.{Place}
use Rattle.steps.specs.declared.Place.TheVariants.{BackBody, StoreUndecided, BackUndecided, Install, InstallClear, Persist, PersistClear, Decide, Settle, SettleClear, Swap, SwapBack, SwapClear, StoreFree, BackFree}
use Rattle.steps.specs.declared.Own.{Own}
use Rattle.steps.specs.declared.Own.TheVariants.{Operation, Read}
use Rattle.steps.specs.declared.Worker.{Worker}
use Rattle.steps.specs.declared.Worker.TheVariants.{Idle, Building, Working, Reading, ReadClear}
use Rattle.memory.specs.declared.Copy.TheVariants.{Cached, Persisted}
use Rattle.memory.specs.Value.{is_success}
use Rattle.events.specs.Build.{owner_of, owns}
use Rattle.machine.specs.Step.{on_job}
use Rattle.ledger.specs.Cells.{Body, Cells}
use Rattle.ledger.specs.Agree.{Agrees}
use Rattle.ledger.specs.Rule.{Rule, OwnersOnly}
use Rattle.ledger.specs.Rely.{Rely, rely}
use Rattle.ledger.specs.Know.{Proper, Job, Knows, Shared, job_stable, know_stable}
use Rattle.ledger.specs.Still.{Still, still}

-- the worker owns d, or its current job is d
abbrev pub Owns : Worker → ℕ → Type 0
Owns x d = owns x d ≡ true

abbrev pub Concerns : Worker → ℕ → Type 0
Concerns x d = Owns x d ⊎ (on_job x d ≡ true)

-- In: the operation of this descriptor is in the ledger. Differed: the ledger has differed from one of its expected values. Sent: the body that was submitted
module _ (n k : ℕ) (M : Cells) (In : ℕ → Bool) (Differed : ℕ → Type 0) (Sent : ℕ → Body) where
  -- submitted, and nothing stored yet
  pub record Ready (d : ℕ) : Type 0 where
    pub cached : M.status Cached d ≡ Free
    pub persisted : M.status Persisted d ≡ Free
    pub proper : Proper (M.body Cached d)
    pub body : M.body Cached d ≡ Sent d
    pub out : In d ≡ false

  abbrev pub OnJob : ℕ → Place → Type 0
  OnJob d p = Job M (Sent d) d × Knows M (Sent d) d (Differed d) p

  -- the owner, at each place
  abbrev pub OwnerKnows : ℕ → Place → Type 0
  OwnerKnows d BackBody = Ready d
  OwnerKnows d StoreUndecided = Ready d × (M.body Cached d ≡ M.body Persisted d)
  OwnerKnows d BackUndecided = (M.status Cached d ≢ Free) × (M.body Cached d ≡ Sent d)
  OwnerKnows d (Install i) = OnJob d (Install i)
  OwnerKnows d (InstallClear i v) = OnJob d (InstallClear i v)
  OwnerKnows d (Persist i) = OnJob d (Persist i)
  OwnerKnows d (PersistClear i) = OnJob d (PersistClear i)
  OwnerKnows d (Decide o) = OnJob d (Decide o)
  OwnerKnows d Settle = OnJob d Settle
  OwnerKnows d SettleClear = OnJob d SettleClear
  OwnerKnows d (Swap i) = OnJob d (Swap i)
  OwnerKnows d (SwapBack i) = OnJob d (SwapBack i)
  OwnerKnows d (SwapClear i) = OnJob d (SwapClear i)
  OwnerKnows d StoreFree = OnJob d StoreFree
  OwnerKnows d (BackFree o) = (M.status Cached d ≡ Free) × (In d ≡ is_success o) × (o ≡ Failed → Differed d)

  -- what a worker owns: in range; its own operation, while it helps, is live
  abbrev pub OwnFits : Own → Type 0
  OwnFits (Operation d) = d < k
  OwnFits (Read a) = a < n

  abbrev pub Home : Own → Type 0
  Home (Operation d) = Job M (Sent d) d
  Home (Read a) = Unit {0}

  -- on its own operation, or on another's
  abbrev pub WorkKnows : Bool → Own → ℕ → Place → Type 0
  WorkKnows true o d p = OwnerKnows d p
  WorkKnows false o d p = Home o × OnJob d p × Shared p

  abbrev pub WorkerKnows : Worker → Type 0
  WorkerKnows Idle = Unit {0}
  WorkerKnows (Building d) = (M.status Cached d ≡ Free) × (M.status Persisted d ≡ Free) × (d < k)
  WorkerKnows (Working o d p) = OwnFits o × (d < k) × WorkKnows (owner_of o d) o d p
  WorkerKnows (Reading a) = a < n
  WorkerKnows (ReadClear a v) = a < n

-- a rule of another, or of the memory itself
module _ (n k : ℕ) {M new : Cells} {L : ℕ → ℕ} {In : ℕ → Bool} {Differed : ℕ → Type 0} (Sent : ℕ → Body) (g : Agrees M L In Differed) (r : Rule M In Differed new)
    (In' : ℕ → Bool) (Differed' : ℕ → Type 0) (Sent' : ℕ → Body) where
  -- it lets d be
  pub record Lets (d : ℕ) : Type 0 where
    pub rule : ¬ (OwnersOnly r d)
    pub flag : M.status Cached d ≡ Free → In' d ≡ In d
    pub differed : Differed d → Differed' d
    pub sent : Sent' d ≡ Sent d

  job_lets : (d : ℕ) (p : Place) → Lets d → OnJob n k M In Differed Sent d p → OnJob n k new In' Differed' Sent' d p
  job_lets d p l h = let R : Rely d M new = rely g r d (h.0.live Cached) l.rule in
      rw l.sent (job_stable R h.0, know_stable R (Sent d) (Differed d) (Differed' d) l.differed p h.1)

  ready_lets : (d : ℕ) → Lets d → Ready n k M In Differed Sent d → Ready n k new In' Differed' Sent' d
  ready_lets d l h = let s : Still d M new = still r d h.cached l.rule in record {
    cached = s.cached;
    persisted = s.persisted h.persisted;
    proper = rw s.body h.proper;
    body = s.body ∙ h.body ∙ sym l.sent;
    out = l.flag h.cached ∙ h.out;
  }

  owner_lets : (d : ℕ) (p : Place) → Lets d → OwnerKnows n k M In Differed Sent d p → OwnerKnows n k new In' Differed' Sent' d p
  owner_lets d BackBody l h = ready_lets d l h
  owner_lets d StoreUndecided l h = (ready_lets d l h.0, (still r d h.0.cached l.rule).bodies h.1)
  owner_lets d BackUndecided l h = let R : Rely d M new = rely g r d h.0 l.rule in (R.live, R.body Cached ∙ h.1 ∙ sym l.sent)
  owner_lets d (Install i) l h = job_lets d (Install i) l h
  owner_lets d (InstallClear i v) l h = job_lets d (InstallClear i v) l h
  owner_lets d (Persist i) l h = job_lets d (Persist i) l h
  owner_lets d (PersistClear i) l h = job_lets d (PersistClear i) l h
  owner_lets d (Decide o) l h = job_lets d (Decide o) l h
  owner_lets d Settle l h = job_lets d Settle l h
  owner_lets d SettleClear l h = job_lets d SettleClear l h
  owner_lets d (Swap i) l h = job_lets d (Swap i) l h
  owner_lets d (SwapBack i) l h = job_lets d (SwapBack i) l h
  owner_lets d (SwapClear i) l h = job_lets d (SwapClear i) l h
  owner_lets d StoreFree l h = job_lets d StoreFree l h
  owner_lets d (BackFree o) l h = let s : Still d M new = still r d h.0 l.rule in (s.cached, l.flag h.0 ∙ h.1, λ e. l.differed (h.2 e))

  pub home_lets : (o : Own) → ((d : ℕ) → owner_of o d ≡ true → Lets d) → Home n k M In Differed Sent o → Home n k new In' Differed' Sent' o
  home_lets (Operation d) l h = let x = l d (eq-eqb d d refl) in let R : Rely d M new = rely g r d (h.live Cached) x.rule in rw x.sent (job_stable R h)
  home_lets (Read a) l h = tt

  pub worker_lets : (x : Worker) → ((d : ℕ) → Concerns x d → Lets d) → WorkerKnows n k M In Differed Sent x → WorkerKnows n k new In' Differed' Sent' x
  worker_lets Idle l h = tt
  worker_lets (Building d) l h = let s : Still d M new = still r d h.0 (l d (inl (eq-eqb d d refl))).rule in (s.cached, s.persisted h.1, h.2)
  worker_lets (Working o d p) l h = (h.0, h.1, go (owner_of o d) h.2)
    where
      here : Lets d
      here = l d (inr (eq-eqb d d refl))

      go : (t : Bool) → WorkKnows n k M In Differed Sent t o d p → WorkKnows n k new In' Differed' Sent' t o d p
      go true z = owner_lets d p here z
      go false z = (home_lets o (λ e q. l e (inl q)) z.0, job_lets d p here z.1, z.2)
  worker_lets (Reading a) l h = h
  worker_lets (ReadClear a v) l h = h

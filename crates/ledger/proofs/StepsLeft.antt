-- How many steps recovery still has to take, by its place and by persisted statuses and bodies: each step of recovery that is taken is one of them, and every other
-- event but a crash leaves their number as it is, a write-back of a status or of a body too.
use Rattle.std.specs.Prelude.{◌≡◌, ◌≢◌, ◌⊎◌, Bool, true, ℕ, suc, ◌+◌, ◌*◌, ◌/◌, ◌%◌, ◌<◌, ◌≤◌}
use Rattle.std.proofs.Math.Path.{refl, ap}
use Rattle.std.proofs.Common.{sym, ◌∙◌, subst, inl, inr, arith, Option}
use Rattle.std.proofs.Math.ListN.{length}
use Rattle.word.specs.declared.Status.{Status}
use Rattle.steps.specs.declared.Seen.{Seen}
use Rattle.steps.specs.declared.Next.{Next}
use Rattle.steps.specs.declared.Next.TheVariants.{Go, Help, Over, Wait, Answer}
use Rattle.steps.specs.declared.ReadNext.{ReadNext}
use Rattle.steps.specs.declared.ReadNext.TheVariants.{Meet, Clear, Value}
use Rattle.steps.specs.declared.RecoveryPlace.{RecoveryPlace}
use Rattle.steps.specs.declared.RecoveryPlace.TheVariants.{Outside, At}
use Rattle.steps.specs.Plan.{is_free}
use Rattle.memory.specs.declared.Copy.TheVariants.{Cached, Persisted}
use Rattle.events.specs.declared.Event.{Event}
use Rattle.events.specs.declared.Event.TheVariants.{Crash}
use Rattle.events.specs.declared.Answer as A
use Rattle.events.specs.Build.{owner_of}
use Rattle.machine.specs.Step.{answer_of, read_answer}
use Rattle.machine.specs.Recover.{place_after, recovery_answer}
use Rattle.image.specs.PlanLaws.{Past, plan_cases}
use Rattle.image.specs.StepCount.{Held, steps_for, steps_at, steps_left, first_left, after_same, here_same, here_is, free_here, here_some, goes_left, over_left, at_most, from_most}
use Rattle.ledger.specs.Rules.{plan_of, read_plan, read_clear_plan, recovery_plan}
use Rattle.ledger.specs.RecoverySteps.{step_in}
use Rattle.ledger.specs.Update.{upd_if}
use Rattle.ledger.specs.Cells.{Body, Cells, State, set_status, set_body, applied}
use Rattle.ledger.specs.Seen.{Sees}
use Rattle.ledger.specs.Fits.{CellsFit}
use Rattle.ledger.specs.Invariant.{AtEntries, AtEnd, Recovering, Recovery, Invariant}
use Rattle.ledger.proofs.Machine.{Turn, refused, opens, adds, removes, submits, discards, begins, works, reads, clears, backs_word, backs_status, backs_body, crashes, recovers}
use Rattle.steps.specs.declared.Plan.{Plan}

-- what cells hold of the descriptors
abbrev pub held_by : Cells → Held
held_by M = record { status = M.status Persisted; count = λ d. length (M.body Persisted d) }

-- "at most 160 in all"
pub left_most : (n k : ℕ) (M : Cells) → CellsFit n k M → 0 < k → k ≤ 16 → steps_left k (held_by M) (At 0 0) ≤ 160
left_most n k M fit l m =
    let a = from_most k (held_by M) 0 (λ d _ _. at_most (M.status Persisted d) (length (M.body Persisted d)) (λ _. (fit.body Persisted d).size)) in
    rw (first_left k (held_by M) l) (omega arith)

module _ (n k : ℕ) {s : State} {L : ℕ → ℕ} {In : ℕ → Bool} {Differed : ℕ → Type 0} {Sent : ℕ → Body} (I : Invariant n k s L In Differed Sent) where
  abbrev M : Cells
  M = s.cells

  most : (d t : ℕ) → Recovering k s d t → t ≤ 2 * length (M.body Persisted d) + 1
  most d t h = go h.here
    where
      go : AtEntries M d t ⊎ AtEnd M d t → t ≤ 2 * length (M.body Persisted d) + 1
      go (inl y) = let l = y.steps in omega arith
      go (inr y) = let l = y.steps in omega arith

  -- while recovery goes on, some step is left
  pub none_left : (p : RecoveryPlace) → Recovery k s p → steps_left k (held_by M) p ≡ 0 → p ≡ Outside
  unfolding steps_left
  none_left Outside h e = refl
  none_left (At d t) h e = let z = here_some t (held_by M) d (most d t h) in absurd (omega arith)

  -- one step of recovery
  module _ (d t : ℕ) (h : Recovering k s d t) (x : Seen) (v : Sees M Persisted d (t / 2) x) where
    abbrev c : ℕ
    c = length (M.body Persisted d)

    abbrev OneLess : Plan (Option ℕ) → Type 0
    OneLess q = steps_left k (held_by M) (At d t) ≡ suc (steps_left k (held_by (applied M d q.effect)) (place_after k d q.next))

    -- it goes on at d, and changes no persisted status or body
    goes : (is_free x.status ≡ true → 0 < t) → steps_left k (held_by M) (At d t) ≡ suc (steps_left k (held_by M) (At d (suc t)))
    goes l = goes_left k (held_by M) (held_by M) d t (rw v.status at l) (most d t h) refl (λ e _ _. refl)

    -- the last step at d
    ends : Past t x.count → (t % 2 ≡ 0 → ⊥) → t ≡ 2 * c + 1
    ends p o = go h.here
      where
        z : length (M.body Persisted d) ≤ 4
        z = (I.fits.body Persisted d).size

        go : AtEntries M d t ⊎ AtEnd M d t → t ≡ 2 * c + 1
        go (inl y) = let l = y.steps in let q = v.count in absurd (p (omega (arith, z)) (omega (arith, z)))
        go (inr y) = y.steps

    one_less : OneLess (recovery_plan d t x)
    one_less = plan_cases d t x OneLess
        (λ z f. over_left k (held_by M) (held_by M) d t (free_here t (held_by M) d z (rw v.status at f)) (λ e _ _. refl))
        (λ l b z p. goes l)
        (λ l b z p. goes l)
        (λ l b z. goes l)
        (λ l p z. goes l)
        (λ l p z. let i = here_is t (held_by M) d (rw v.status at l) in let q = ends p z in
        over_left k (held_by M) (held_by (set_status M Persisted d (M.status Cached d))) d t (i ∙ omega arith)
        (λ e g _. ap (λ (y : Status). steps_for y (length (M.body Persisted e))) (upd_if (λ (y : Status). y ≡ M.status Persisted e) (M.status Persisted) d e (M.status Cached d) (λ q. absurd (omega arith)) (λ _. refl))))

  -- what is written back leaves the number as it is: statuses ahead, and bodies, are alike in both copies
  kept : (new : Cells) (d t : ℕ) → length (new.body Persisted d) ≡ length (M.body Persisted d) → (t ≡ 0 → steps_at (held_by new) d ≡ steps_at (held_by M) d)
      → ((e : ℕ) → d < e → steps_at (held_by new) e ≡ steps_at (held_by M) e) → steps_left k (held_by M) (At d t) ≡ steps_left k (held_by new) (At d t)
  unfolding steps_left
  kept new d t b f g = rw (here_same t (held_by M) (held_by new) d b f, after_same k (held_by M) (held_by new) d (λ e l _. g e l))

  status_kept : (f : ℕ) (p : RecoveryPlace) → Recovery k s p → steps_left k (held_by M) p ≡ steps_left k (held_by (set_status M Persisted f (M.status Cached f))) p
  unfolding steps_left
  status_kept f Outside h = refl
  status_kept f (At d t) h = kept (set_status M Persisted f (M.status Cached f)) d t refl (λ z. alike d (first z h.here)) (λ e l. alike e (h.ahead e l))
    where
      alike : (e : ℕ) → M.status Cached e ≡ M.status Persisted e → steps_at (held_by (set_status M Persisted f (M.status Cached f))) e ≡ steps_at (held_by M) e
      alike e q = ap (λ (y : Status). steps_for y (length (M.body Persisted e)))
          (upd_if (λ (y : Status). y ≡ M.status Persisted e) (M.status Persisted) f e (M.status Cached f) (λ z. ap (M.status Cached) (sym z) ∙ q) (λ _. refl))

      first : t ≡ 0 → AtEntries M d t ⊎ AtEnd M d t → M.status Cached d ≡ M.status Persisted d
      first z (inl y) = y.alike
      first z (inr y) = let l = y.steps in absurd (omega arith)

  body_kept : (f : ℕ) (p : RecoveryPlace) → Recovery k s p → steps_left k (held_by M) p ≡ steps_left k (held_by (set_body M Persisted f (M.body Cached f))) p
  unfolding steps_left
  body_kept f Outside h = refl
  body_kept f (At d t) h = kept (set_body M Persisted f (M.body Cached f)) d t (ap length (same d)) (λ _. steps d) (λ e _. steps e)
    where
      same : (e : ℕ) → (set_body M Persisted f (M.body Cached f)).body Persisted e ≡ M.body Persisted e
      same e = upd_if (λ (y : Body). y ≡ M.body Persisted e) (M.body Persisted) f e (M.body Cached f) (λ z. ap (M.body Cached) (sym z) ∙ h.bodies e) (λ _. refl)

      steps : (e : ℕ) → steps_at (held_by (set_body M Persisted f (M.body Cached f))) e ≡ steps_at (held_by M) e
      steps e = ap (λ (y : Body). steps_for (M.status Persisted e) (length y)) (same e)

  none_more : (x : ℕ) → x ≡ 0 + x
  none_more x = omega arith

  one-more : (x : ℕ) → suc x ≡ 1 + x
  one-more x = omega arith

  -- outside recovery none is left, and none is taken
  calm : (g : Held) (r : A.Answer) → step_in r ≡ 0 → s.recovery ≡ Outside → steps_left k (held_by M) s.recovery ≡ step_in r + steps_left k g s.recovery
  unfolding steps_left
  calm g r z o = rw (o, z)

  work_none : (q : Next) → step_in (answer_of q) ≡ 0
  work_none (Go p) = refl
  work_none (Help e) = refl
  work_none Over = refl
  work_none Wait = refl
  work_none (Answer o) = refl

  read_none : (q : ReadNext) → step_in (read_answer q) ≡ 0
  read_none (Meet e) = refl
  read_none (Clear v) = refl
  read_none (Value v) = refl

  recovery_one : (p : RecoveryPlace) → step_in (recovery_answer p) ≡ 1
  recovery_one Outside = refl
  recovery_one (At d t) = refl

  pub turn_left : (e : Event) (t : State) (r : A.Answer) → Turn n k s e t r → e ≢ Crash → steps_left k (held_by M) s.recovery ≡ step_in r + steps_left k (held_by t.cells) t.recovery
  turn_left e t r (refused f x) q = none_more _
  turn_left e t r (opens w d a l f b o) q = calm _ r refl a.outside
  turn_left e t r (adds w d i x b a f p l) q = calm _ r refl a.outside
  turn_left e t r (removes w d x i b a p) q = calm _ r refl a.outside
  turn_left e t r (submits w d a o) q = calm _ r refl a.outside
  turn_left e t r (discards w d a) q = calm _ r refl a.outside
  turn_left e t r (begins w x a o) q = calm _ r refl a.outside
  turn_left e t r (works w o d p x busy a v alone) q = calm _ r (work_none (plan_of p d x busy (owner_of o d)).next) a.outside
  turn_left e t r (reads w x y a o) q = calm _ r (read_none (read_plan x y).next) a.outside
  turn_left e t r (clears w x y j a o) q = calm _ r (read_none (read_clear_plan x y j).next) a.outside
  turn_left e t r (backs_word a o) q = none_more _
  turn_left e t r (backs_status d o) q = status_kept d s.recovery I.place ∙ none_more _
  turn_left e t r (backs_body d o) q = body_kept d s.recovery I.place ∙ none_more _
  turn_left e t r crashes q = absurd (q refl)
  turn_left e t r (recovers d u x o v) q = rw (o, recovery_one (place_after k d (recovery_plan d u x).next)) (one_less d u (subst (Recovery k s) o I.place) x v ∙ one-more _)

-- The image's recovery is the machine's: the image of a memory's cached copy, given s recovery steps, is the image of the cached copy after s events 0C, with the
-- machine's answers; for every s, also past the end, where the machine refuses 6 and the image's recovery is complete.
use Rattle.std.specs.Prelude.{◌≡◌, refl, List, [], ◌∷◌, ℕ, zero, suc}
use Rattle.std.proofs.Common.{sym, ap, ◌∙◌, arith}
use Rattle.steps.specs.declared.RecoveryPlace.{RecoveryPlace}
use Rattle.steps.specs.declared.RecoveryPlace.TheVariants.{Outside, At}
use Rattle.memory.specs.declared.Copy.TheVariants.{Cached, Persisted}
use Rattle.memory.specs.Block.{Block, Field, get}
use Rattle.memory.specs.Block.Field.{word, status, body, worker, size, recovery}
use Rattle.memory.specs.Fields.{Whole}
use Rattle.memory.specs.Content as M
use Rattle.memory.specs.StoreLaws.{recovery_stored, recovery_other, recovery_whole, idled_whole, idled_other}
use Rattle.memory.specs.CopyLaws.{crash_whole, crash_word, crash_status, crash_body, crash_copy_other}
use Rattle.events.specs.declared.Event.{Event}
use Rattle.events.specs.declared.Event.TheVariants.{Recover}
use Rattle.events.specs.declared.Answer.{Answer}
use Rattle.events.specs.declared.Answer.TheVariants.{Refused}
use Rattle.events.specs.Left.{left}
use Rattle.events.specs.Refusal.{first_of, refusal_of}
use Rattle.machine.specs.Step as S
use Rattle.machine.specs.Recover.{crashed, place_after, recovery_answer, recovery_step_at}
use Rattle.machine.specs.Apply.{apply_of, after_of}
use Rattle.image.specs.Check.{image_refusal}
use Rattle.image.specs.CheckLaws.{accepted, sizes_small}
use Rattle.image.specs.Good.{Good, good}
use Rattle.image.specs.Stays.{Reached, Stands, begins, step_good, step_stands}
use Rattle.image.specs.OfMemory.{image_of, Fits}
use Rattle.image.specs.Beside.{Beside, Ahead, AheadAt, place_alike, beside_alike, ahead_alike, plans_agree, both}
use Rattle.image.specs.Recover.{performed_in, plan_in, image_after, place_then, run_from}

-- one step
module _ (n k : ℕ) (m : Block) (x : List ℕ) (d done : ℕ) (b : Beside n k m x) (a : Ahead m d done) (g : Good n k x) (r : Reached n k x d done) where
  step_beside : Beside n k (recovery_step_at m k d done).memory (image_after n x d done)
  unfolding recovery_step_at image_after
  step_beside =
      let q = plan_in x n d done in
      let z = S.performed m d q.effect in
      let p = place_after k d q.next in
      let h = (both n k m x d done b a g r).0 in
      rw (plans_agree n k m x d done b a g r) (beside_alike n k z (M.put_recovery z p) (performed_in x n d q.effect) (recovery_whole z p h.whole) (place_alike z p) h)

  step_ahead : AheadAt (recovery_step_at m k d done).memory (place_then n k x d done)
  unfolding recovery_step_at place_then
  step_ahead =
      let q = plan_in x n d done in
      let z = S.performed m d q.effect in
      let p = place_after k d q.next in
      rw (plans_agree n k m x d done b a g r) (ahead_alike z (M.put_recovery z p) p (place_alike z p) (both n k m x d done b a g r).1)

  step_place : M.recovery_in (recovery_step_at m k d done).memory ≡ place_then n k x d done
  unfolding recovery_step_at place_then
  step_place =
      let q = plan_in x n d done in
      let z = S.performed m d q.effect in
      let p = place_after k d q.next in
      let h = (both n k m x d done b a g r).0 in
      rw (plans_agree n k m x d done b a g r) (recovery_stored z p h.whole)

  step_answer : (recovery_step_at m k d done).answer ≡ recovery_answer (place_then n k x d done)
  unfolding recovery_step_at place_then
  step_answer = rw (plans_agree n k m x d done b a g r)

apply_at : (m : Block) (k d done : ℕ) → M.recovery_in m ≡ At d done → get m (size 1) ≡ k → apply_of m Recover ≡ recovery_step_at m k d done
unfolding apply_of refusal_of first_of
apply_at m k d done e f = rw (e, f, e)

apply_outside : (m : Block) → M.recovery_in m ≡ Outside → apply_of m Recover ≡ left m (Refused 6)
unfolding apply_of refusal_of first_of
apply_outside m e = rw e

-- s events 0C
abbrev pub recovers : ℕ → List Event
recovers zero = []
recovers (suc s) = Recover ∷ recovers s

-- their answers: A, Z on the very last step, then refused 6
abbrev pub answers_from : ℕ → ℕ → ℕ → List ℕ → RecoveryPlace → List Answer
answers_from zero n k x p = []
answers_from (suc s) n k x Outside = Refused 6 ∷ answers_from s n k x Outside
answers_from (suc s) n k x (At d done) = recovery_answer (place_then n k x d done) ∷ answers_from s n k (image_after n x d done) (place_then n k x d done)

runs_alike : (s n k : ℕ) (m : Block) (x : List ℕ) (p : RecoveryPlace) → Beside n k m x → AheadAt m p → Good n k x → Stands n k x p → M.recovery_in m ≡ p
    → image_of Cached (after_of m (recovers s)).memory n k ≡ (run_from s n k x p).bytes
unfolding run_from
runs_alike zero n k m x p b a g r e = sym b.image
runs_alike (suc s) n k m x Outside b a g r e = rw (apply_outside m e) (runs_alike s n k m x Outside b a g r e ∙ rests s n k x)
  where
    rests : (s n k : ℕ) (x : List ℕ) → (run_from s n k x Outside).bytes ≡ x
    rests zero n k x = refl
    rests (suc s) n k x = refl
runs_alike (suc s) n k m x (At d done) b a g r e =
    rw (apply_at m k d done e b.descriptors)
    (runs_alike s n k (recovery_step_at m k d done).memory (image_after n x d done) (place_then n k x d done) (step_beside n k m x d done b a g r) (step_ahead n k m x d done b a g r)
    (step_good n k x d done g r)
    (step_stands n k x d done g r)
    (step_place n k m x d done b a g r))

answers_alike : (s n k : ℕ) (m : Block) (x : List ℕ) (p : RecoveryPlace) → Beside n k m x → AheadAt m p → Good n k x → Stands n k x p → M.recovery_in m ≡ p
    → (after_of m (recovers s)).answers ≡ answers_from s n k x p
answers_alike zero n k m x p b a g r e = refl
answers_alike (suc s) n k m x Outside b a g r e = rw (apply_outside m e) (ap (λ (l : List Answer). Refused 6 ∷ l) (answers_alike s n k m x Outside b a g r e))
answers_alike (suc s) n k m x (At d done) b a g r e =
    rw (apply_at m k d done e b.descriptors, step_answer n k m x d done b a g r)
    (ap (λ (l : List Answer). recovery_answer (place_then n k x d done) ∷ l)
    (answers_alike s n k (recovery_step_at m k d done).memory (image_after n x d done) (place_then n k x d done) (step_beside n k m x d done b a g r) (step_ahead n k m x d done b a g r)
    (step_good n k x d done g r)
    (step_stands n k x d done g r)
    (step_place n k m x d done b a g r)))

-- recovery has just begun: at descriptor 0, of k, with every status and body the same in both copies (the crash makes them so)
pub record Begun (k : ℕ) (m : Block) : Type 0 where
  pub whole : Whole m
  pub fits : Fits Cached m
  pub descriptors : get m (size 1) ≡ k
  pub place : M.recovery_in m ≡ At 0 0
  pub statuses : (d : ℕ) → get m (status Persisted d) ≡ get m (status Cached d)
  pub bodies : (d j : ℕ) → get m (body Persisted d j) ≡ get m (body Cached d j)

module _ (n k : ℕ) (m : Block) (h : Begun k m) (e : image_refusal n k (image_of Cached m n k) ≡ 0) where
  beside : Beside n k m (image_of Cached m n k)
  beside = record { whole = h.whole; fits = h.fits; image = refl; bodies = h.bodies; descriptors = h.descriptors }

  ahead : Ahead m 0 0
  ahead = record { later = λ d l. h.statuses d; first = λ q. h.statuses 0; living = λ q. h.statuses 0 }

  reached : Reached n k (image_of Cached m n k) 0 0
  reached = begins n k (image_of Cached m n k) 0 (sizes_small n k (accepted n k (image_of Cached m n k) e).sizes).1.1.0

  pub image_follows : (s : ℕ) → image_of Cached (after_of m (recovers s)).memory n k ≡ (run_from s n k (image_of Cached m n k) (At 0 0)).bytes
  image_follows s =
      runs_alike s n k m (image_of Cached m n k) (At 0 0) beside ahead (good n k (image_of Cached m n k) (accepted n k (image_of Cached m n k) e)) reached h.place

  pub answers_follow : (s : ℕ) → (after_of m (recovers s)).answers ≡ answers_from s n k (image_of Cached m n k) (At 0 0)
  answers_follow s =
      answers_alike s n k m (image_of Cached m n k) (At 0 0) beside ahead (good n k (image_of Cached m n k) (accepted n k (image_of Cached m n k) e)) reached h.place

-- every crash begins it
module _ (m : Block) (w : Whole m) (h : Fits Persisted m) where
  kept : (o : Field) → ((j : ℕ) → recovery j ≡ o → ⊥) → ((v j : ℕ) → worker v j ≡ o → ⊥) → get (crashed m) o ≡ get (M.crash_copied m) o
  unfolding crashed
  kept o p q = recovery_other (M.idled (M.crash_copied m) 8) (At 0 0) o p ∙ idled_other (M.crash_copied m) 8 o q

  no : (A : Type 0) → ◌≡◌ {A = ℕ} 0 1 → A
  no A e = absurd (omega arith)

  whole_after : Whole (crashed m)
  unfolding crashed
  whole_after = recovery_whole (M.idled (M.crash_copied m) 8) (At 0 0) (idled_whole (M.crash_copied m) 8 (crash_whole m w))

  place-after : M.recovery_in (crashed m) ≡ At 0 0
  unfolding crashed
  place-after = recovery_stored (M.idled (M.crash_copied m) 8) (At 0 0) (idled_whole (M.crash_copied m) 8 (crash_whole m w))

  word_after : (a : ℕ) → get (crashed m) (word Cached a) ≡ get m (word Persisted a)
  word_after a = kept (word Cached a) (λ j e. no ⊥ cc) (λ v j e. no ⊥ cc) ∙ crash_word m w a

  status_after : (d : ℕ) → get (crashed m) (status Cached d) ≡ get m (status Persisted d)
  status_after d = kept (status Cached d) (λ j e. no ⊥ cc) (λ v j e. no ⊥ cc) ∙ crash_status m w d

  body_after : (d j : ℕ) → get (crashed m) (body Cached d j) ≡ get m (body Persisted d j)
  body_after d j = kept (body Cached d j) (λ i e. no ⊥ cc) (λ v i e. no ⊥ cc) ∙ crash_body m w d j

  other_after : (o : Field) → ((j : ℕ) → recovery j ≡ o → ⊥) → ((v j : ℕ) → worker v j ≡ o → ⊥)
      → ((a : ℕ) → word Cached a ≡ o → ⊥) → ((d : ℕ) → status Cached d ≡ o → ⊥) → ((d j : ℕ) → body Cached d j ≡ o → ⊥) → get (crashed m) o ≡ get m o
  other_after o p q r s t = kept o p q ∙ crash_copy_other m o r s t

  pub crash_begins : Begun (get m (size 1)) (crashed m)
  crash_begins =
      record {
        whole = whole_after;
        fits = record { words = λ a. rw (word_after a) (h.words a); statuses = λ d. rw (status_after d) (h.statuses d); bodies = λ d j. rw (body_after d j) (h.bodies d j) };
        descriptors = other_after (size 1) (λ j e. no ⊥ cc) (λ v j e. no ⊥ cc) (λ a e. no ⊥ cc) (λ d e. no ⊥ cc) (λ d j e. no ⊥ cc);
        place = place-after;
        statuses = λ d. other_after (status Persisted d) (λ j e. no ⊥ cc) (λ v j e. no ⊥ cc) (λ a e. no ⊥ cc) (λ i e. no ⊥ cc) (λ i j e. no ⊥ cc) ∙ sym (status_after d);
        bodies = λ d j. other_after (body Persisted d j) (λ i e. no ⊥ cc) (λ v i e. no ⊥ cc) (λ a e. no ⊥ cc) (λ i e. no ⊥ cc) (λ i q e. no ⊥ cc) ∙ sym (body_after d j);
      }

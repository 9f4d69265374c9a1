-- What the owner of a descriptor that is Free in cached memory may rely on; and the bodies of live descriptors.
use Rattle.std.specs.Prelude.{◌≡◌, refl, ◌≢◌, Bool, true, false, cond, not, ℕ}
use Rattle.std.proofs.Common.{◌∙◌}
use Rattle.word.specs.declared.Outcome.TheVariants.{Succeeded, Failed}
use Rattle.word.specs.declared.Status.{Status}
use Rattle.word.specs.declared.Status.TheVariants.{Free, Undecided, Decided, Bad}
use Rattle.memory.specs.declared.Copy.{Copy}
use Rattle.memory.specs.declared.Copy.TheVariants.{Cached, Persisted}
use Rattle.memory.specs.Value.{succeeded}
use Rattle.ledger.specs.Update.{clash, upd, upd_if, upd_other, in_frame}
use Rattle.ledger.specs.Cond.{cond_if}
use Rattle.ledger.specs.Cells.{Body, Cells, set_status, set_body}
use Rattle.ledger.specs.Agree.{Agrees}
use Rattle.ledger.specs.StatusRules.{fires}
use Rattle.ledger.specs.Rule.{Rule, same, back-word, back-status, back-body, install, swap, decide, clear, store-free, store_undecided, edit, OwnersOnly, fired}

pub record Still (d : ℕ) (M new : Cells) : Type 0 where
  pub cached : new.status Cached d ≡ Free
  pub persisted : M.status Persisted d ≡ Free → new.status Persisted d ≡ Free
  pub body : new.body Cached d ≡ M.body Cached d
  pub bodies : M.body Cached d ≡ M.body Persisted d → new.body Cached d ≡ new.body Persisted d

still_same : {M : Cells} (d : ℕ) → M.status Cached d ≡ Free → Still d M M
still_same d c = record { cached = c; persisted = λ q. q; body = refl; bodies = λ q. q }

still_cached : {M : Cells} (d e : ℕ) (s : Status) → M.status Cached d ≡ Free → d ≢ e → Still d M (set_status M Cached e s)
still_cached {M} d e s c n = record { cached = upd_other (M.status Cached) e s d n ∙ c; persisted = λ q. q; body = refl; bodies = λ q. q }

module _ {M : Cells} {In : ℕ → Bool} {Differed : ℕ → Type 0} where
  pub still : {new : Cells} (r : Rule M In Differed new) (d : ℕ) → M.status Cached d ≡ Free → ¬ (OwnersOnly r d) → Still d M new
  still same d c m = still_same d c
  still (back-word a) d c m = record { cached = c; persisted = λ q. q; body = refl; bodies = λ q. q }
  still (back-status e) d c m = record { cached = c; persisted = λ q. upd_if (λ (s : Status). s ≡ Free) _ _ _ _ (λ p. rw p at c) (λ _. q); body = refl; bodies = λ q. q }
  still (back-body e) d c m = record { cached = c; persisted = λ q. q; body = refl; bodies = λ q. upd_if (λ (b : Body). M.body Cached d ≡ b) _ _ _ _ (λ p. rw p) (λ _. q) }
  still (install e a s u h x) d c m = record { cached = c; persisted = λ q. q; body = refl; bodies = λ q. q }
  still (swap e a v x p w) d c m = record { cached = c; persisted = λ q. q; body = refl; bodies = λ q. q }
  still (decide e o u v a f) d c m = still_cached d e (Decided o true) c (λ p. let z : M.status Cached e ≡ Free = rw p at c in clash (cc))
  still (clear e o x y u v) d c m = still_cached d e (Decided o false) c (λ p. let z : M.status Cached e ≡ Free = rw p at c in clash (cc))
  still (store-free e n) d c m = still_cached d e Free c m
  still (store_undecided e x k b w) d c m = still_cached d e Undecided c m
  still (edit e b x k) d c m = record { cached = c; persisted = λ q. q; body = upd_other (M.body Cached) e b d m; bodies = λ q. upd_other (M.body Cached) e b d m ∙ q }

  -- a flag "in the ledger" moves only with a Succeeded status
  pub fired_still : {new : Cells} (r : Rule M In Differed new) (d : ℕ) → M.status Cached d ≡ Free → (fired r (λ e. upd In e true) In) d ≡ In d
  fired_still same d c = refl
  fired_still (back-word a) d c = refl
  fired_still (back-status e) d c = fires_off e (M.status Cached e) refl
    where
      fires_off : (e : ℕ) (s : Status) → M.status Cached e ≡ s → (cond (fires s (M.status Persisted e)) (upd In e true) In) d ≡ In d
      fires_off e Free q = refl
      fires_off e Undecided q = refl
      fires_off e (Decided Failed x) q = refl
      fires_off e (Decided Succeeded x) q = cond_if (λ (f : ℕ → Bool). f d ≡ In d) (not (succeeded (M.status Persisted e))) (upd In e true) In
          (λ _. upd_other In e true d (λ p. let z : M.status Cached e ≡ Free = rw p at c in clash (cc))) (λ _. refl)
      fires_off e (Bad x) q = refl
  fired_still (back-body e) d c = refl
  fired_still (install e a s u h x) d c = refl
  fired_still (swap e a v x p w) d c = refl
  fired_still (decide e o u v a f) d c = refl
  fired_still (clear e o x y u v) d c = refl
  fired_still (store-free e n) d c = refl
  fired_still (store_undecided e x k b w) d c = refl
  fired_still (edit e b x k) d c = refl

-- the body of a descriptor that is live in a copy satisfies Q
abbrev pub Bodies : (ℕ → Body → Type 0) → Cells → Type 0
Bodies Q M = (c : Copy) (d : ℕ) → M.status c d ≢ Free → Q d (M.body c d)

module _ {M : Cells} {L : ℕ → ℕ} {In : ℕ → Bool} {Differed : ℕ → Type 0} (g : Agrees M L In Differed) (Q : ℕ → Body → Type 0) (b : Bodies Q M) where
  -- what a rule that begins an operation has to show
  abbrev pub Begins : {new : Cells} → Rule M In Differed new → Type 0
  Begins same = Unit {0}
  Begins (back-word a) = Unit {0}
  Begins (back-status e) = Unit {0}
  Begins (back-body e) = Unit {0}
  Begins (install e a s u h x) = Unit {0}
  Begins (swap e a v x p w) = Unit {0}
  Begins (decide e o u v a f) = Unit {0}
  Begins (clear e o x y u v) = Unit {0}
  Begins (store-free e n) = Unit {0}
  Begins (store_undecided e x k b w) = Q e (M.body Cached e)
  Begins (edit e b x k) = Unit {0}

  -- a status stored or written back, a body written back or edited
  bodies_status : (c : Copy) (e : ℕ) (s : Status) → (s ≢ Free → Q e (M.body c e)) → Bodies Q (set_status M c e s)
  bodies_status c e s q = in_frame (λ c d s. s ≢ Free → Q d (M.body c d)) c b q

  bodies_body : (c : Copy) (e : ℕ) (y : Body) → (M.status c e ≢ Free → Q e y) → Bodies Q (set_body M c e y)
  bodies_body c e y q = in_frame (λ c d y. M.status c d ≢ Free → Q d y) c b q

  pub bodies : {new : Cells} (r : Rule M In Differed new) → Begins r → Bodies Q new
  bodies same t = b
  bodies (back-word a) t = b
  bodies (back-status e) t = bodies_status Persisted e (M.status Cached e) (λ l. rw (← g.body Cached e l) (b Cached e l))
  bodies (back-body e) t = bodies_body Persisted e (M.body Cached e) (λ l. rw (g.body Persisted e l) (b Persisted e l))
  bodies (install e a s u h x) t = b
  bodies (swap e a v x p w) t = b
  bodies (decide e o u v a f) t = bodies_status Cached e (Decided o true) (λ l. b Cached e (λ z. clash (cc)))
  bodies (clear e o x y u v) t = bodies_status Cached e (Decided o false) (λ l. b Cached e (λ z. clash (cc)))
  bodies (store-free e n) t = bodies_status Cached e Free (λ l. absurd (l refl))
  bodies (store_undecided e x k y w) t = bodies_status Cached e Undecided (λ l. t)
  bodies (edit e y x k) t = bodies_body Cached e y (λ l. absurd (l x))

  -- a rule that is nobody's own begins nothing
  pub begins_not : {new : Cells} (r : Rule M In Differed new) → ((e : ℕ) → ¬ (OwnersOnly r e)) → Begins r
  begins_not same n = tt
  begins_not (back-word a) n = tt
  begins_not (back-status e) n = tt
  begins_not (back-body e) n = tt
  begins_not (install e a s u h x) n = tt
  begins_not (swap e a v x p w) n = tt
  begins_not (decide e o u v a f) n = tt
  begins_not (clear e o x y u v) n = tt
  begins_not (store-free e q) n = tt
  begins_not (store_undecided e x k b w) n = absurd (n e refl)
  begins_not (edit e b x k) n = tt

-- The ledger by comparison of persisted statuses, before and after, is the ledger of the rules; and one status fires in one rule.
use Rattle.std.specs.Prelude.{◌≡◌, refl, ◌≢◌, Bool, true, false, cond, ℕ, zero, suc, ◌<◌}
use Rattle.std.proofs.Common.{sym, ◌∙◌, arith}
use Rattle.std.proofs.Math.Decide.{ℕ_discrete}
use Rattle.word.specs.declared.Outcome.TheVariants.{Succeeded, Failed}
use Rattle.word.specs.declared.Status.{Status}
use Rattle.word.specs.declared.Status.TheVariants.{Free, Undecided, Decided, Bad}
use Rattle.memory.specs.declared.Copy.TheVariants.{Cached, Persisted}
use Rattle.ledger.specs.Update.{clash, upd, upd_if, upd_other, upd_same}
use Rattle.ledger.specs.Cells.{Body, Cells}
use Rattle.ledger.specs.Meaning.{put_all}
use Rattle.ledger.specs.StatusRules.{fires}
use Rattle.ledger.specs.Rule.{Rule, same, back-word, back-status, back-body, install, swap, decide, clear, store-free, store_undecided, edit, fired}

-- the ledger with all the desired values of each body below k that is marked
unfoldable pub put_below : ℕ → (ℕ → Bool) → (ℕ → Body) → (ℕ → ℕ) → ℕ → ℕ
put_below zero new body L = L
put_below (suc k) new body L = cond (new k) (put_all (body k) (put_below k new body L)) (put_below k new body L)

pub fires_same : (s : Status) → fires s s ≡ false
fires_same Free = refl
fires_same Undecided = refl
fires_same (Decided Succeeded x) = refl
fires_same (Decided Failed x) = refl
fires_same (Bad x) = refl

pub put_none : (k : ℕ) (new : ℕ → Bool) (body : ℕ → Body) (L : ℕ → ℕ) → ((d : ℕ) → d < k → new d ≡ false) → put_below k new body L ≡ L
unfolding put_below
put_none zero new body L h = refl
put_none (suc k) new body L h = rw (h k (omega arith)) (put_none k new body L (λ d l. h d (omega arith)))

pub put_one : (k : ℕ) (new : ℕ → Bool) (body : ℕ → Body) (L : ℕ → ℕ) (e : ℕ) → e < k → ((d : ℕ) → d ≢ e → new d ≡ false)
    → put_below k new body L ≡ cond (new e) (put_all (body e) L) L
unfolding put_below
put_one zero new body L e l h = absurd (omega arith)
put_one (suc k) new body L e l h = go (ℕ_discrete k e) (put_one k new body L e)
  where
    go : Dec (k ≡ e) → (e < k → ((d : ℕ) → d ≢ e → new d ≡ false) → put_below k new body L ≡ cond (new e) (put_all (body e) L) L)
        → put_below (suc k) new body L ≡ cond (new e) (put_all (body e) L) L
    go (yes p) ih = rw (p, put_none e new body L (λ d l. h d (omega arith)))
    go (no q) ih = rw (h k q) (ih (omega arith) h)

-- what an event may do to persisted statuses: only a cached status goes there, and at most one becomes Succeeded
pub record Wrote (M new : Cells) : Type 0 where
  pub backed : (d : ℕ) → fires (new.status Persisted d) (M.status Persisted d) ≡ true → fires (M.status Cached d) (M.status Persisted d) ≡ true
  pub single : (d e : ℕ) → fires (new.status Persisted d) (M.status Persisted d) ≡ true → fires (new.status Persisted e) (M.status Persisted e) ≡ true → d ≡ e

-- persisted statuses as they were
pub wrote_none : (M new : Cells) → new.status Persisted ≡ M.status Persisted → Wrote M new
wrote_none M new e = record { backed = λ d f. clashes d (rw e at f); single = λ d _ f _. clashes d (rw e at f) }
  where
    clashes : (d : ℕ) {A : Type 0} → fires (M.status Persisted d) (M.status Persisted d) ≡ true → A
    clashes d f = let z = fires_same (M.status Persisted d) in clash (cc)

module _ (M : Cells) (In : ℕ → Bool) (Differed : ℕ → Type 0) where
  abbrev P : ℕ → Status
  P = M.status Persisted

  -- the flags
  quiet_in : (d : ℕ) → cond (fires (P d) (P d)) true (In d) ≡ In d
  quiet_in d = rw (fires_same (P d))

  pub fired_in : {new : Cells} (r : Rule M In Differed new) (d : ℕ) → cond (fires (new.status Persisted d) (P d)) true (In d) ≡ (fired r (λ e. upd In e true) In) d
  fired_in same d = quiet_in d
  fired_in (back-word a) d = quiet_in d
  fired_in (back-status e) d = go (ℕ_discrete d e)
    where
      here : (t : Bool) → cond t true (In e) ≡ (cond t (upd In e true) In) e
      here true = sym (upd_same In e true)
      here false = refl

      there : d ≢ e → (t : Bool) → In d ≡ (cond t (upd In e true) In) d
      there q true = sym (upd_other In e true d q)
      there q false = refl

      go : Dec (d ≡ e) → cond (fires (upd P e (M.status Cached e) d) (P d)) true (In d) ≡ (cond (fires (M.status Cached e) (P e)) (upd In e true) In) d
      go (yes p) = rw (p, upd_same P e (M.status Cached e)) (here (fires (M.status Cached e) (P e)))
      go (no q) = rw (upd_other P e (M.status Cached e) d q, fires_same (P d)) (there q (fires (M.status Cached e) (P e)))
  fired_in (back-body e) d = quiet_in d
  fired_in (install e a s u h x) d = quiet_in d
  fired_in (swap e a v x p w) d = quiet_in d
  fired_in (decide e o u v a f) d = quiet_in d
  fired_in (clear e o x y u v) d = quiet_in d
  fired_in (store-free e n) d = quiet_in d
  fired_in (store_undecided e x k b w) d = quiet_in d
  fired_in (edit e b x k) d = quiet_in d

  -- the ledger
  module _ (k : ℕ) (L : ℕ → ℕ) (below : (e : ℕ) → fires (M.status Cached e) (P e) ≡ true → e < k) where
    quiet_ledger : put_below k (λ d. fires (P d) (P d)) (M.body Persisted) L ≡ L
    quiet_ledger = put_none k _ (M.body Persisted) L (λ d _. fires_same (P d))

    pub fired_ledger : {new : Cells} (r : Rule M In Differed new)
        → put_below k (λ d. fires (new.status Persisted d) (P d)) (M.body Persisted) L ≡ fired r (λ d. put_all (M.body Persisted d) L) L
    fired_ledger same = quiet_ledger
    fired_ledger (back-word a) = quiet_ledger
    fired_ledger (back-status e) = go (fires (M.status Cached e) (P e)) refl
      where
        new : ℕ → Bool
        new d = fires (upd P e (M.status Cached e) d) (P d)

        off : (d : ℕ) → d ≢ e → new d ≡ false
        off d q = rw (upd_other P e (M.status Cached e) d q, fires_same (P d))

        on : new e ≡ fires (M.status Cached e) (P e)
        on = rw (upd_same P e (M.status Cached e))

        go : (t : Bool) → fires (M.status Cached e) (P e) ≡ t → put_below k new (M.body Persisted) L ≡ cond (fires (M.status Cached e) (P e)) (put_all (M.body Persisted e) L) L
        go true p = put_one k new (M.body Persisted) L e (below e p) off ∙ rw on
        go false p = put_none k new (M.body Persisted) L (λ d _. elim (ℕ_discrete d e) [ yes q ↦ rw q (on ∙ p) | no q ↦ off d q ]) ∙ rw p
    fired_ledger (back-body e) = quiet_ledger
    fired_ledger (install e a s u h x) = quiet_ledger
    fired_ledger (swap e a v x p w) = quiet_ledger
    fired_ledger (decide e o u v a f) = quiet_ledger
    fired_ledger (clear e o x y u v) = quiet_ledger
    fired_ledger (store-free e n) = quiet_ledger
    fired_ledger (store_undecided e x k b w) = quiet_ledger
    fired_ledger (edit e b x k) = quiet_ledger

  pub wrote : {new : Cells} → Rule M In Differed new → Wrote M new
  wrote same = wrote_none M M refl
  wrote (back-word a) = wrote_none M _ refl
  wrote (back-status e) = record { backed = back; single = λ d f x y. is d x ∙ sym (is f y) }
    where
      quiet : (d : ℕ) {A : Type 0} → fires (P d) (P d) ≡ true → A
      quiet d f = let z = fires_same (P d) in clash (cc)

      back : (d : ℕ) → fires (upd P e (M.status Cached e) d) (P d) ≡ true → fires (M.status Cached d) (P d) ≡ true
      back d f = upd_if (λ (s : Status). fires s (P d) ≡ true → fires (M.status Cached d) (P d) ≡ true) P e d (M.status Cached e) (λ p h. rw p (rw p at h)) (λ _ h. quiet d h) f

      is : (d : ℕ) → fires (upd P e (M.status Cached e) d) (P d) ≡ true → d ≡ e
      is d = upd_if (λ (s : Status). fires s (P d) ≡ true → d ≡ e) P e d (M.status Cached e) (λ p _. p) (λ _ f. quiet d f)
  wrote (back-body e) = wrote_none M _ refl
  wrote (install e a s u h x) = wrote_none M _ refl
  wrote (swap e a v x p w) = wrote_none M _ refl
  wrote (decide e o u v a f) = wrote_none M _ refl
  wrote (clear e o x y u v) = wrote_none M _ refl
  wrote (store-free e n) = wrote_none M _ refl
  wrote (store_undecided e x k b w) = wrote_none M _ refl
  wrote (edit e b x k) = wrote_none M _ refl

-- What a worker on a live d may rely on while others take rules.
use Rattle.std.specs.Prelude.{◌≡◌, refl, ◌≢◌, Bool, true, false, ℕ}
use Rattle.std.proofs.Common.{sym}
use Rattle.word.specs.declared.Outcome.{Outcome}
use Rattle.word.specs.declared.Status.{Status}
use Rattle.word.specs.declared.Status.TheVariants.{Free, Undecided, Decided}
use Rattle.memory.specs.declared.Copy.{Copy}
use Rattle.memory.specs.declared.Copy.TheVariants.{Cached, Persisted}
use Rattle.ledger.specs.Update.{clash, upd_if, in_if, in_frame}
use Rattle.ledger.specs.Cells.{Cell, pointer, Belongs, Body, Cells, set_word, set_status, set_body}
use Rattle.ledger.specs.Agree.{Agrees}
use Rattle.ledger.specs.Rule.{Rule, same, back-word, back-status, back-body, install, swap, decide, clear, store-free, store_undecided, edit, OwnersOnly}

-- the status is decided, with this outcome, dirty or not
abbrev pub Is : Outcome → Status → Type 0
Is o s = (x : Bool) × (s ≡ Decided o x)

pub record Rely (d : ℕ) (M new : Cells) : Type 0 where
  -- nothing becomes undecided; what is decided stays so, in both copies once it is in both
  pub undecided : new.status Cached d ≡ Undecided → M.status Cached d ≡ Undecided
  pub decided : (o : Outcome) → Is o (M.status Cached d) → Is o (new.status Cached d)
  pub settled : (o : Outcome) → Is o (M.status Cached d) → Is o (M.status Persisted d) → Is o (new.status Persisted d)
  -- it stays live
  pub live : new.status Cached d ≢ Free
  pub persisted : M.status Persisted d ≢ Free → new.status Persisted d ≢ Free
  -- while it is undecided its words stay, the persisted ones where the cached ones are there; once it is decided none comes back
  pub installed : (c : Copy) (a : ℕ) → new.status Cached d ≡ Undecided → Belongs d (M.word Cached a) → Belongs d (M.word c a) → Belongs d (new.word c a)
  pub removed : (c : Copy) (a : ℕ) → M.status Cached d ≢ Undecided → ¬ (Belongs d (M.word Cached a)) → ¬ (Belongs d (M.word c a)) → ¬ (Belongs d (new.word c a))
  -- its bodies stay
  pub body : (c : Copy) → new.body c d ≡ M.body c d

module _ (d : ℕ) (M : Cells) (live : M.status Cached d ≢ Free) where
  rely_same : Rely d M M
  rely_same = record {
    undecided = λ e. e;
    decided = λ o x. x;
    settled = λ o x y. y;
    live = live;
    persisted = λ q. q;
    installed = λ c a e p q. q;
    removed = λ c a e p q. q;
    body = λ c. refl;
  }

  rely_word : (k : Copy) (a : ℕ) (x : Cell) → (M.status Cached d ≡ Undecided → Belongs d (M.word Cached a) → Belongs d x)
      → (M.status Cached d ≢ Undecided → ¬ (Belongs d (M.word Cached a)) → ¬ (Belongs d x)) → Rely d M (set_word M k a x)
  rely_word k a x p n = record {
    undecided = λ e. e;
    decided = λ o x. x;
    settled = λ o x y. y;
    live = live;
    persisted = λ q. q;
    installed = λ c b u. in_frame (λ c b y. Belongs d (M.word Cached b) → Belongs d (M.word c b) → Belongs d y) k (λ c b q r. r) (λ q r. p u q) c b;
    removed = λ c b u. in_frame (λ c b y. ¬ (Belongs d (M.word Cached b)) → ¬ (Belongs d (M.word c b)) → ¬ (Belongs d y)) k (λ c b q r. r) (λ q r. n u q) c b;
    body = λ c. refl;
  }

  rely_cached : (e : ℕ) (s : Status) → (d ≡ e → s ≢ Undecided) → (d ≡ e → (o : Outcome) → Is o (M.status Cached d) → Is o s) → (d ≡ e → s ≢ Free)
      → Rely d M (set_status M Cached e s)
  rely_cached e s u f l = record {
    undecided = upd_if (λ (s : Status). s ≡ Undecided → M.status Cached d ≡ Undecided) _ _ _ _ (λ p q. absurd (u p q)) (λ _ q. q);
    decided = λ o x. upd_if (Is o) _ _ _ _ (λ p. f p o x) (λ _. x);
    settled = λ o x y. y;
    live = upd_if (λ (s : Status). s ≢ Free) _ _ _ _ l (λ _. live);
    persisted = λ q. q;
    installed = λ c a e p q. q;
    removed = λ c a e p q. q;
    body = λ c. refl;
  }

  rely_persisted : (e : ℕ) → Rely d M (set_status M Persisted e (M.status Cached e))
  rely_persisted e = record {
    undecided = λ q. q;
    decided = λ o x. x;
    settled = λ o x y. upd_if (Is o) _ _ _ _ (λ p. rw p at x) (λ _. y);
    live = live;
    persisted = λ q. upd_if (λ (s : Status). s ≢ Free) _ _ _ _ (λ p. rw p at live) (λ _. q);
    installed = λ c a e p q. q;
    removed = λ c a e p q. q;
    body = λ c. refl;
  }

  rely_body : (k : Copy) (e : ℕ) (b : Body) → (d ≡ e → b ≡ M.body k d) → Rely d M (set_body M k e b)
  rely_body k e b p = record {
    undecided = λ q. q;
    decided = λ o x. x;
    settled = λ o x y. y;
    live = live;
    persisted = λ q. q;
    installed = λ c a e p q. q;
    removed = λ c a e p q. q;
    body = λ c. in_if (λ (y : Body). y ≡ M.body c d) M.body k e b c d (λ x y. rw (← x) (p (sym y))) (λ _. refl);
  }

-- every rule but the owner's own
module _ {M : Cells} {L : ℕ → ℕ} {In : ℕ → Bool} {Differed : ℕ → Type 0} (g : Agrees M L In Differed) where
  pub rely : {new : Cells} (r : Rule M In Differed new) (d : ℕ) → M.status Cached d ≢ Free → ¬ (OwnersOnly r d) → Rely d M new
  rely same d l m = rely_same d M l
  rely (back-word a) d l m = rely_word d M l Persisted a (M.word Cached a) (λ _ q. q) (λ _ q. q)
  rely (back-status e) d l m = rely_persisted d M l e
  rely (back-body e) d l m = rely_body d M l Persisted e (M.body Cached e) (λ p. rw (← p) (g.body Cached d l))
  rely (install e a s u h c) d l m = rely_word d M l Cached a (pointer e) (λ _ q. clash (cc)) (λ n _ q. let z : e ≡ d = cc in n (rw z at s))
  rely (swap e a v c p w) d l m = rely_word d M l Cached a _ (λ u q. let z : e ≡ d = cc in absurd (m (rw z u))) (λ n _ q. clash (cc))
  rely (decide e o u v a f) d l m = rely_cached d M l e (Decided o true) (λ _ q. clash (cc)) (λ p r x. let y = x.1 in let z : M.status Cached d ≡ Undecided = rw p u in clash (cc)) (λ _ q. clash (cc))
  rely (clear e o x y u v) d l m = rely_cached d M l e (Decided o false) (λ _ q. clash (cc)) (λ p r t. let y = t.1 in let z : M.status Cached d ≡ Decided o x = rw p u in (false, cc)) (λ _ q. clash (cc))
  rely (store-free e n) d l m = rely_cached d M l e Free (λ _ q. clash (cc)) (λ p. absurd (m p)) (λ p. absurd (m p))
  rely (store_undecided e c k b w) d l m = rely_cached d M l e Undecided (λ p. absurd (m p)) (λ p. absurd (m p)) (λ p. absurd (m p))
  rely (edit e b c k) d l m = rely_body d M l Cached e b (λ p. absurd (m p))

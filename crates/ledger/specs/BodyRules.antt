-- Edits and write-backs of a body, the crash, and what may be forgotten of the past, keep the invariant.
use Rattle.std.specs.Prelude.{◌≡◌, refl, ◌≢◌, Bool, ℕ}
use Rattle.std.proofs.Common.{sym, ◌∙◌}
use Rattle.word.specs.declared.Status.TheVariants.{Free}
use Rattle.memory.specs.declared.Copy.{Copy}
use Rattle.memory.specs.declared.Copy.TheVariants.{Cached, Persisted}
use Rattle.ledger.specs.Update.{clash, upd, upd_frame}
use Rattle.ledger.specs.Cells.{Cell, plain, pointer, neither, Body, Cells, set_body, crashed_cells}
use Rattle.ledger.specs.Meaning.{Has, means_in, means}
use Rattle.ledger.specs.Agree.{Live, equal, pair_map, Agrees}

module _ (M : Cells) (L : ℕ → ℕ) (In : ℕ → Bool) (Differed : ℕ → Type 0) (g : Agrees M L In Differed) where
  -- the builder's edits: a descriptor that is Free in both copies
  pub edit : (d : ℕ) (b : Body) → M.status Cached d ≡ Free → M.status Persisted d ≡ Free → Agrees (set_body M Cached d b) L In Differed
  edit d b c k = record {
    value = g.value;
    live = g.live;
    pair = g.pair;
    body = λ k. upd_frame (λ (d : ℕ) (b : Body). M.status k d ≢ Free → b ≡ M.body Persisted d) (g.body k) (λ q. absurd (q (free k)));
    failed = g.failed;
    entered = g.entered;
    waiting = g.waiting;
  }
    where
      free : (c : Copy) → M.status c d ≡ Free
      free Cached = c
      free Persisted = k

  pub crash : Agrees (crashed_cells M) L In Differed
  crash = record {
    value = λ c. g.value Persisted;
    live = λ c. g.live Persisted;
    pair = λ d. equal (M.status Persisted d);
    body = λ c d _. refl;
    failed = λ c. g.failed Persisted;
    entered = g.entered;
    waiting = λ d e. g.entered d (λ z. clash (cc)) ∙ rw e;
  }

  -- a body written back changes nothing that counts
  pub back-body : (d : ℕ) → Agrees (set_body M Persisted d (M.body Cached d)) L In Differed
  back-body d = record {
    value = λ c a. alike a (M.word c a) (g.live c a) ∙ g.value c a;
    live = λ c a e p. ((g.live c a e p).0, rw (keeps e (g.live c a e p).0) (g.live c a e p).1);
    pair = λ e. pair_map (λ c k all x a m. all x a (back e a (λ z. clash (cc)) m)) (λ _ none. none) (g.pair e);
    body = λ k. upd_frame (λ (e : ℕ) (b : Body). M.status k e ≢ Free → M.body Cached e ≡ b) (g.body k) (λ _. refl);
    failed = g.failed;
    entered = g.entered;
    waiting = g.waiting;
  }
    where
      keeps : (e : ℕ) → M.status Persisted e ≢ Free → upd (M.body Persisted) d (M.body Cached d) e ≡ M.body Persisted e
      keeps = upd_frame (λ (e : ℕ) (b : Body). M.status Persisted e ≢ Free → b ≡ M.body Persisted e) (λ e _. refl) (g.body Persisted d)

      back : (e a : ℕ) → M.status Persisted e ≢ Free → Has (upd (M.body Persisted) d (M.body Cached d) e) a → Has (M.body Persisted e) a
      back e a q m = rw (keeps e q) at m

      alike : (a : ℕ) (x : Cell) → Live M a x → means_in (M.status Persisted) (upd (M.body Persisted) d (M.body Cached d)) a x ≡ means M a x
      alike a (plain v) l = refl
      alike a (pointer e) l = rw (keeps e (l e refl).0)
      alike a (neither w) l = refl

-- where a descriptor is Free in both copies a new operation may begin; what has differed stays so
pub forget : (M : Cells) (L L' : ℕ → ℕ) (In In' : ℕ → Bool) (Differed Differed' : ℕ → Type 0) → Agrees M L In Differed → ((a : ℕ) → L' a ≡ L a)
    → ((d : ℕ) (c : Copy) → M.status c d ≢ Free → (In' d ≡ In d) × (Differed d → Differed' d)) → Agrees M L' In' Differed'
forget M L L' In In' Differed Differed' g l h = record {
  value = λ c a. g.value c a ∙ sym (l a);
  live = g.live;
  pair = g.pair;
  body = g.body;
  failed = λ c d x e. (h d c (λ z. clash (cc))).1 (g.failed c d x e);
  entered = λ d q. (h d Persisted q).0 ∙ g.entered d q;
  waiting = λ d e. (h d Cached (λ z. clash (cc))).0 ∙ g.waiting d e;
}

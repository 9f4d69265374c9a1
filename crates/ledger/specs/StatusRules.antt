-- The rules that change one status keep the invariant. The ledger moves in one of them: the write-back of a status.
use Rattle.std.specs.Prelude.{◌≡◌, refl, ◌≢◌, Bool, true, false, cond, not, ◌&&◌, ℕ}
use Rattle.std.proofs.Common.{sym, ◌∙◌, ap}
use Rattle.word.specs.declared.Outcome.{Outcome}
use Rattle.word.specs.declared.Outcome.TheVariants.{Succeeded, Failed}
use Rattle.word.specs.declared.Status.{Status}
use Rattle.word.specs.declared.Status.TheVariants.{Free, Undecided, Decided, Bad}
use Rattle.memory.specs.declared.Copy.{Copy}
use Rattle.memory.specs.declared.Copy.TheVariants.{Cached, Persisted}
use Rattle.memory.specs.Value.{succeeded}
use Rattle.ledger.specs.Update.{clash, upd, upd_same, upd_other, upd_frame, upd_frame_two, upd_case, in_frame}
use Rattle.ledger.specs.Cells.{Cell, plain, pointer, neither, Belongs, Cells, set_status}
use Rattle.ledger.specs.Meaning.{Has, has?, stands, means_in, means, put_all, put_in, put_out}
use Rattle.ledger.specs.Agree.{AllBelong, NoneBelongs, Pair, equal, begun, decided, settled, freed, Agrees}

module _ (M : Cells) (L : ℕ → ℕ) (In : ℕ → Bool) (Differed : ℕ → Type 0) (g : Agrees M L In Differed) where
  -- a store to the cached status of d
  pub store_status : (d : ℕ) (s : Status) → Pair (AllBelong M d) (NoneBelongs M d) s (M.status Persisted d) → (s ≢ Free → M.body Cached d ≡ M.body Persisted d)
      → ((x : Bool) → s ≡ Decided Failed x → Differed d) → (s ≡ Undecided → In d ≡ false) → Agrees (set_status M Cached d s) L In Differed
  store_status d s p b f w = record {
    value = g.value;
    live = g.live;
    pair = upd_frame (λ (d : ℕ) (s : Status). Pair (AllBelong M d) (NoneBelongs M d) s (M.status Persisted d)) g.pair p;
    body = in_frame (λ c d s. s ≢ Free → M.body Cached d ≡ M.body Persisted d) Cached g.body b;
    failed = in_frame (λ c d s. (x : Bool) → s ≡ Decided Failed x → Differed d) Cached g.failed f;
    entered = g.entered;
    waiting = upd_frame (λ (d : ℕ) (s : Status). s ≡ Undecided → In d ≡ false) g.waiting w;
  }

  -- decide: Succeeded only where every word is in place, Failed only where the ledger has differed
  pub decide : (d : ℕ) (o : Outcome) → M.status Cached d ≡ Undecided → M.status Persisted d ≡ Undecided → (o ≡ Succeeded → AllBelong M d) → (o ≡ Failed → Differed d)
      → Agrees (set_status M Cached d (Decided o true)) L In Differed
  decide d o u v a f = store_status d (Decided o true) (rw v (decided o a)) (λ q. g.body Cached d (λ z. clash (cc))) (λ x e. f (cc)) (λ e. clash (cc))

  -- clear the dirty bit of a status that is persisted
  pub clear : (d : ℕ) (o : Outcome) (x y : Bool) → M.status Cached d ≡ Decided o x → M.status Persisted d ≡ Decided o y → Agrees (set_status M Cached d (Decided o false)) L In Differed
  clear d o x y u v = store_status d (Decided o false) (rw v (settled o false y)) (λ q. g.body Cached d (λ z. clash (cc))) (λ z e. g.failed Persisted d y (cc)) (λ e. clash (cc))

  -- store Free, once no word belongs to d
  pub store-free : (d : ℕ) → NoneBelongs M d → Agrees (set_status M Cached d Free) L In Differed
  store-free d a = store_status d Free (freed _ a) (λ q. absurd (q refl)) (λ x e. clash (cc)) (λ e. clash (cc))

  -- store Undecided, once the body is persisted
  pub store_undecided : (d : ℕ) → M.status Persisted d ≡ Free → M.body Cached d ≡ M.body Persisted d → In d ≡ false → Agrees (set_status M Cached d Undecided) L In Differed
  store_undecided d v b w = store_status d Undecided (rw v begun) (λ q. b) (λ x e. clash (cc)) (λ e. w)

-- the write-back of d's status, s, and what cells mean then
module _ (M : Cells) (d : ℕ) (s : Status) where
  -- of a cell that does not belong to d
  means_off : (a : ℕ) (x : Cell) → ¬ (Belongs d x) → means_in (upd (M.status Persisted) d s) (M.body Persisted) a x ≡ means M a x
  means_off a (plain v) q = refl
  means_off a (pointer e) q = rw (upd_other (M.status Persisted) d s e (λ z. q (ap pointer z)))
  means_off a (neither w) q = refl

  -- where the new status picks the same values
  means_alike : (a : ℕ) (x : Cell) → succeeded s ≡ succeeded (M.status Persisted d) → means_in (upd (M.status Persisted) d s) (M.body Persisted) a x ≡ means M a x
  means_alike a (plain v) q = refl
  means_alike a (pointer e) q = upd_frame (λ (e : ℕ) (s : Status). stands s (M.body Persisted e) a ≡ stands (M.status Persisted e) (M.body Persisted e) a) (λ e. refl) (rw q) e
  means_alike a (neither w) q = refl

-- THE INSTANT: status `new` goes over `old` in persisted memory, and is Succeeded first now
abbrev pub fires : Status → Status → Bool
fires new old = succeeded new && not (succeeded old)

module _ (M : Cells) (L : ℕ → ℕ) (In : ℕ → Bool) (Differed : ℕ → Type 0) (g : Agrees M L In Differed) (d : ℕ) where
  abbrev new : Cells
  new = set_status M Persisted d (M.status Cached d)

  -- the ledger stays: no word belongs to d, or the write-back does not change which value its words stand for
  quiet : ((c : Copy) (a : ℕ) → means new a (M.word c a) ≡ means M a (M.word c a))
      → ((c : Copy) (a : ℕ) → Belongs d (M.word c a) → M.status Cached d ≢ Free)
      → (M.status Cached d ≢ Free → In d ≡ succeeded (M.status Cached d)) → Agrees new L In Differed
  quiet m z w = record {
    value = λ c a. m c a ∙ g.value c a;
    live = λ c a e p. (upd_case (λ (e : ℕ) (s : Status). Belongs e (M.word c a) → s ≢ Free) (λ e q p. (g.live c a e p).0) (z c a) e p, (g.live c a e p).1);
    pair = upd_frame (λ (d : ℕ) (s : Status). Pair (AllBelong M d) (NoneBelongs M d) (M.status Cached d) s) g.pair (equal (M.status Cached d));
    body = in_frame (λ c d s. s ≢ Free → M.body Cached d ≡ M.body Persisted d) Persisted g.body (g.body Cached d);
    failed = in_frame (λ c d s. (x : Bool) → s ≡ Decided Failed x → Differed d) Persisted g.failed (g.failed Cached d);
    entered = upd_frame (λ (d : ℕ) (s : Status). s ≢ Free → In d ≡ succeeded s) g.entered w;
    waiting = g.waiting;
  }

  quiet_alike : succeeded (M.status Cached d) ≡ succeeded (M.status Persisted d) → M.status Persisted d ≢ Free → M.status Cached d ≢ Free → Agrees new L In Differed
  quiet_alike w p c = quiet (λ k a. means_alike M d (M.status Cached d) a (M.word k a) w) (λ k a _. c) (λ _. g.entered d p ∙ sym w)

  quiet_none : NoneBelongs M d → (M.status Cached d ≢ Free → In d ≡ succeeded (M.status Cached d)) → Agrees new L In Differed
  quiet_none n w = quiet (λ c a. means_off M d (M.status Cached d) a (M.word c a) (n c a)) (λ c a p. absurd (n c a p)) w

  -- the instant: all the desired values at once
  fire : M.status Cached d ≡ Decided Succeeded true → M.status Persisted d ≡ Undecided → AllBelong M d → Agrees new (put_all (M.body Persisted d) L) (upd In d true) Differed
  fire c k all = record {
    value = λ k a. value_fired a (M.word k a) (g.value k a) (all k a) (λ p. (g.live k a d p).1);
    live = λ k a e p. (upd_frame (λ (e : ℕ) (s : Status). Belongs e (M.word k a) → s ≢ Free) (λ e p. (g.live k a e p).0) (λ p z. clash (cc)) e p, (g.live k a e p).1);
    pair = upd_frame (λ (d : ℕ) (s : Status). Pair (AllBelong M d) (NoneBelongs M d) (M.status Cached d) s) g.pair (equal (M.status Cached d));
    body = in_frame (λ c d s. s ≢ Free → M.body Cached d ≡ M.body Persisted d) Persisted g.body (g.body Cached d);
    failed = in_frame (λ c d s. (x : Bool) → s ≡ Decided Failed x → Differed d) Persisted g.failed (g.failed Cached d);
    entered = upd_frame_two (λ (d : ℕ) (w : Bool) (s : Status). s ≢ Free → w ≡ succeeded s) g.entered (λ _. rw c);
    waiting = upd_frame (λ (d : ℕ) (w : Bool). M.status Cached d ≡ Undecided → w ≡ false) g.waiting (λ e. clash (cc));
  }
    where
      value_fired : (a : ℕ) (x : Cell) → means M a x ≡ L a → (Has (M.body Persisted d) a → Belongs d x) → (Belongs d x → Has (M.body Persisted d) a)
          → means_in (upd (M.status Persisted) d (M.status Cached d)) (M.body Persisted) a x ≡ put_all (M.body Persisted d) L a
      value_fired a x v h p = elim (has? (M.body Persisted d) a) [
        | yes m ↦ rw (h m, upd_same (M.status Persisted) d (M.status Cached d), c, put_in (M.body Persisted d) L a m)
        | no q ↦ means_off M d (M.status Cached d) a x (λ z. q (p z)) ∙ v ∙ sym (put_out (M.body Persisted d) L a q)
      ]

  -- write back the status of d
  pub back-status : Agrees new (cond (fires (M.status Cached d) (M.status Persisted d)) (put_all (M.body Persisted d) L) L) (cond (fires (M.status Cached d) (M.status Persisted d)) (upd In d true) In) Differed
  back-status = go (M.status Cached d) (M.status Persisted d) refl refl (g.pair d)
    where
      Goal : Bool → Type 0
      Goal t = Agrees new (cond t (put_all (M.body Persisted d) L) L) (cond t (upd In d true) In) Differed

      dead : M.status Persisted d ≡ Free → NoneBelongs M d
      dead k c a p = (g.live c a d p).0 k

      same : succeeded (M.status Cached d) ≡ succeeded (M.status Persisted d) → M.status Cached d ≢ Free → M.status Persisted d ≢ Free → Goal false
      same w c k = quiet_alike w k c

      go : (c k : Status) → M.status Cached d ≡ c → M.status Persisted d ≡ k → Pair (AllBelong M d) (NoneBelongs M d) c k → Goal (fires c k)
      go c k p q (equal Free) = quiet_none (dead q) (λ n. absurd (n p))
      go c k p q (equal Undecided) = same (rw (p, q)) (λ z. clash (cc)) (λ z. clash (cc))
      go c k p q (equal (Decided Succeeded x)) = same (rw (p, q)) (λ z. clash (cc)) (λ z. clash (cc))
      go c k p q (equal (Decided Failed x)) = same (rw (p, q)) (λ z. clash (cc)) (λ z. clash (cc))
      go c k p q (equal (Bad x)) = same (rw (p, q)) (λ z. clash (cc)) (λ z. clash (cc))
      go c k p q begun = quiet_none (dead q) (λ _. g.waiting d p ∙ rw p)
      go c k p q (decided Succeeded a) = fire p q (a refl)
      go c k p q (decided Failed a) = same (rw (p, q)) (λ z. clash (cc)) (λ z. clash (cc))
      go c k p q (settled Succeeded x y) = same (rw (p, q)) (λ z. clash (cc)) (λ z. clash (cc))
      go c k p q (settled Failed x y) = same (rw (p, q)) (λ z. clash (cc)) (λ z. clash (cc))
      go c k p q (freed s n) = quiet_none n (λ m. absurd (m p))

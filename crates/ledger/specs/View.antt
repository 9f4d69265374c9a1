-- The block as cells, and how each store to the block acts on them: each law once, over the copy.
use Rattle.std.specs.Prelude.{◌≡◌, refl, Bool, true, false, cond, [], ℕ, ◌+◌, ◌*◌, ◌<◌, ◌≤◌, ltb}
use Rattle.std.proofs.Common.{sym, ◌∙◌, arith, ltb-true, ltb-false, le-ltb}
use Rattle.std.proofs.Math.Path.{ap, fun_ext}
use Rattle.word.specs.declared.Sort.{Sort}
use Rattle.word.specs.declared.Status.{Status}
use Rattle.word.specs.Word.{sort_of, word_number}
use Rattle.word.specs.Status.{status_of, status_number}
use Rattle.word.specs.Laws.{Formed, word_made}
use Rattle.word.specs.StatusLaws.{StatusFormed, status_made}
use Rattle.steps.specs.declared.Worker.{Worker}
use Rattle.steps.specs.declared.RecoveryPlace.{RecoveryPlace}
use Rattle.codes.specs.Row.{row_of}
use Rattle.memory.specs.declared.Copy.{Copy}
use Rattle.memory.specs.declared.Copy.TheVariants.{Cached, Persisted}
use Rattle.memory.specs.Block.{Block, Field, nowhere, base_of, slot, get, put}
use Rattle.memory.specs.Block.Field.{word, status, body, worker, recovery}
use Rattle.memory.specs.Content.{word_in, put_word, back_word, status_in, put_status, back_status, count_in, entry_in, back_body, clear_body, worker_in, put_worker, recovery_in, put_recovery}
use Rattle.memory.specs.Fields.{Whole, word_somewhere, status_somewhere, get_put, get_other, get_nowhere}
use Rattle.memory.specs.Laws.{same_worker, same_recovery}
use Rattle.memory.specs.StoreLaws.{workers_apart, row_other, worker_stored, recovery_stored, recovery_other, cleared_other, cleared_zero}
use Rattle.memory.specs.CopyLaws.{body_backed, body_back_other}
use Rattle.ledger.specs.Statement.{firsts, body_in}
use Rattle.ledger.specs.Update.{clash, upd_if, InBoth, upd_in, in_if, both_ext}
use Rattle.ledger.specs.Cells.{Cell, cell_of, Body, Cells, State, set_word, set_status, set_body, with_cells, with_worker, with_recovery}

abbrev pub words_of : Block → InBoth Cell
words_of m = λ c a. cell_of (word_in c m a)

abbrev pub statuses_of : Block → InBoth Status
statuses_of m = λ c d. status_in c m d

abbrev pub bodies_of : Block → InBoth Body
bodies_of m = λ c d. body_in c m d

abbrev pub workers_of : Block → ℕ → Worker
workers_of m = λ w. worker_in m w

abbrev pub cells_of : Block → Cells
cells_of m = record { word = words_of m; status = statuses_of m; body = bodies_of m }

abbrev pub view : Block → State
view m = record { cells = cells_of m; worker = workers_of m; recovery = recovery_in m }

-- a state by its parts
pub same_parts : (x y : InBoth Cell) (s t : InBoth Status) (b c : InBoth Body) (w v : ℕ → Worker) (p q : RecoveryPlace) → x ≡ y → s ≡ t → b ≡ c → w ≡ v → p ≡ q
    → ◌≡◌ {A = State} (record { cells = record { word = x; status = s; body = b }; worker = w; recovery = p })
    (record { cells = record { word = y; status = t; body = c }; worker = v; recovery = q })
same_parts x y s t b c w v p q e f g h i = rw (e, f, g, h, i)

-- two blocks that agree on the fields of one kind agree on that kind
module _ (x m : Block) where
  pub same_words : ((c : Copy) (a : ℕ) → get x (word c a) ≡ get m (word c a)) → words_of x ≡ words_of m
  same_words e = both_ext _ _ (λ c a. ap (λ (n : ℕ). cell_of (sort_of n)) (e c a))

  pub same_statuses : ((c : Copy) (d : ℕ) → get x (status c d) ≡ get m (status c d)) → statuses_of x ≡ statuses_of m
  same_statuses e = both_ext _ _ (λ c d. ap status_of (e c d))

  -- a body of one copy in x, of another in m
  pub same_body : (c k : Copy) (d : ℕ) → ((j : ℕ) → get x (body c d j) ≡ get m (body k d j)) → body_in c x d ≡ body_in k m d
  unfolding body_in entry_in
  same_body c k d e = ap (λ (n : ℕ). firsts n (entry_in c x d)) (e 0) ∙ ap (firsts (count_in k m d)) (fun_ext entries)
    where
      entries : (i : ℕ) → entry_in c x d i ≡ entry_in k m d i
      entries i = rw (e (1 + 3 * i), e (2 + 3 * i), e (3 + 3 * i))

  pub same_bodies : ((c : Copy) (d j : ℕ) → get x (body c d j) ≡ get m (body c d j)) → bodies_of x ≡ bodies_of m
  same_bodies e = both_ext _ _ (λ c d. same_body c c d (e c d))

  pub same_workers : ((w j : ℕ) → get x (worker w j) ≡ get m (worker w j)) → workers_of x ≡ workers_of m
  same_workers e = fun_ext (λ w. same_worker m x w (e w))

-- one field stored: the thing that it is, and nothing else
module _ (m : Block) (h : Whole m) where
  module _ (c : Copy) (a v : ℕ) (l : a < 64) where
    words_put : words_of (put m (word c a) v) ≡ upd_in (words_of m) c a (cell_of (sort_of v))
    words_put = both_ext _ _ (λ k b. in_if (λ (x : Cell). cell_of (word_in k (put m (word c a) v) b) ≡ x) (words_of m) c a _ k b
        (λ e f. rw (← e, ← f) (ap (λ (n : ℕ). cell_of (sort_of n)) (get_put m (word c a) v h (word_somewhere c a l))))
        (λ q. ap (λ (n : ℕ). cell_of (sort_of n)) (get_other m (word c a) v (word k b) (λ z. let e : c ≡ k = cc in let f : a ≡ b = cc in q e f))))

    -- a word of copy c
    pub view_word : view (put m (word c a) v) ≡ with_cells (view m) (set_word (cells_of m) c a (cell_of (sort_of v)))
    view_word = same_parts _ _ _ _ _ _ _ _ _ _ words_put
        (same_statuses _ m (λ k d. get_other m (word c a) v (status k d) (λ z. clash (cc))))
        (same_bodies _ m (λ k d j. get_other m (word c a) v (body k d j) (λ z. clash (cc))))
        (same_workers _ m (λ w j. get_other m (word c a) v (worker w j) (λ z. clash (cc))))
        (same_recovery m _ (λ j. get_other m (word c a) v (recovery j) (λ z. clash (cc))))

  module _ (c : Copy) (d v : ℕ) (l : d < 16) where
    statuses_put : statuses_of (put m (status c d) v) ≡ upd_in (statuses_of m) c d (status_of v)
    statuses_put = both_ext _ _ (λ k b. in_if (λ (x : Status). status_in k (put m (status c d) v) b ≡ x) (statuses_of m) c d _ k b
        (λ e f. rw (← e, ← f) (ap status_of (get_put m (status c d) v h (status_somewhere c d l))))
        (λ q. ap status_of (get_other m (status c d) v (status k b) (λ z. let e : c ≡ k = cc in let f : d ≡ b = cc in q e f))))

    -- a status of copy c
    pub view_status : view (put m (status c d) v) ≡ with_cells (view m) (set_status (cells_of m) c d (status_of v))
    view_status = same_parts _ _ _ _ _ _ _ _ _ _ (same_words _ m (λ k a. get_other m (status c d) v (word k a) (λ z. clash (cc)))) statuses_put
        (same_bodies _ m (λ k e j. get_other m (status c d) v (body k e j) (λ z. clash (cc))))
        (same_workers _ m (λ w j. get_other m (status c d) v (worker w j) (λ z. clash (cc))))
        (same_recovery m _ (λ j. get_other m (status c d) v (recovery j) (λ z. clash (cc))))

-- where x differs from m in the body of d of copy c alone: that body is the new one
module _ (x m : Block) (c : Copy) (d : ℕ) (o : (f : Field) → ((j : ℕ) → body c d j ≡ f → ⊥) → get x f ≡ get m f) where
  bodies_only : bodies_of x ≡ upd_in (bodies_of m) c d (body_in c x d)
  bodies_only = both_ext _ _ (λ k b. in_if (λ (y : Body). body_in k x b ≡ y) (bodies_of m) c d _ k b
      (λ e f. rw (← e, ← f) refl)
      (λ q. same_body x m k k b (λ j. o (body k b j) (λ i z. let e : c ≡ k = cc in let f : d ≡ b = cc in q e f))))

  pub view_body : view x ≡ with_cells (view m) (set_body (cells_of m) c d (body_in c x d))
  view_body = same_parts _ _ _ _ _ _ _ _ _ _ (same_words x m (λ k a. o (word k a) (λ j z. clash (cc))))
      (same_statuses x m (λ k e. o (status k e) (λ j z. clash (cc)))) bodies_only
      (same_workers x m (λ w i. o (worker w i) (λ j z. clash (cc))))
      (same_recovery m x (λ i. o (recovery i) (λ j z. clash (cc))))

-- a body has 13 numbers
pub past_body : (m : Block) (c : Copy) (d j : ℕ) → 13 ≤ j → get m (body c d j) ≡ 0
unfolding slot
past_body m c d j h = get_nowhere m (body c d j) (go (ltb d 16))
  where
    go : (t : Bool) → nowhere ≤ cond t (cond (ltb j 13) (base_of c + 80 + 13 * d + j) nowhere) nowhere
    go true = rw (le-ltb j 13 h) (omega arith)
    go false = omega arith

-- the stores and write-backs of `memory`
module _ (m : Block) (h : Whole m) where
  pub view_put_word : (a : ℕ) (s : Sort) → a < 64 → Formed s → view (put_word m a s) ≡ with_cells (view m) (set_word (cells_of m) Cached a (cell_of s))
  view_put_word a s l f = view_word m h Cached a (word_number s) l ∙ ap (λ (t : Sort). with_cells (view m) (set_word (cells_of m) Cached a (cell_of t))) (word_made s f)

  pub view_back_word : (a : ℕ) → a < 64 → view (back_word m a) ≡ with_cells (view m) (set_word (cells_of m) Persisted a ((cells_of m).word Cached a))
  view_back_word a l = view_word m h Persisted a (get m (word Cached a)) l

  pub view_put_status : (d : ℕ) (s : Status) → d < 16 → StatusFormed s → view (put_status m d s) ≡ with_cells (view m) (set_status (cells_of m) Cached d s)
  view_put_status d s l f = view_status m h Cached d (status_number s) l ∙ ap (λ (t : Status). with_cells (view m) (set_status (cells_of m) Cached d t)) (status_made s f)

  pub view_back_status : (d : ℕ) → d < 16 → view (back_status m d) ≡ with_cells (view m) (set_status (cells_of m) Persisted d ((cells_of m).status Cached d))
  view_back_status d l = view_status m h Persisted d (get m (status Cached d)) l

  pub view_back_body : (d : ℕ) → d < 16 → view (back_body m d) ≡ with_cells (view m) (set_body (cells_of m) Persisted d ((cells_of m).body Cached d))
  view_back_body d l = view_body (back_body m d) m Persisted d (body_back_other m d)
      ∙ ap (λ (b : Body). with_cells (view m) (set_body (cells_of m) Persisted d b)) (same_body (back_body m d) m Persisted Cached d number)
    where
      number : (j : ℕ) → get (back_body m d) (body Persisted d j) ≡ get m (body Cached d j)
      number j = go (ltb j 13) refl
        where
          go : (t : Bool) → ltb j 13 ≡ t → get (back_body m d) (body Persisted d j) ≡ get m (body Cached d j)
          go true e = body_backed m d j h l (ltb-true _ _ e)
          go false e = past_body (back_body m d) Persisted d j (ltb-false _ _ e) ∙ sym (past_body m Cached d j (ltb-false _ _ e))

  pub view_clear_body : (d : ℕ) → d < 16 → view (clear_body m d) ≡ with_cells (view m) (set_body (cells_of m) Cached d [])
  unfolding body_in firsts
  view_clear_body d l = view_body (clear_body m d) m Cached d (λ f n. cleared_other m d 13 f n)
      ∙ ap (λ (n : ℕ). with_cells (view m) (set_body (cells_of m) Cached d (firsts n (entry_in Cached (clear_body m d) d)))) (cleared_zero m d 13 0 h l (omega arith) (omega arith))

  pub view_put_worker : (w : ℕ) (x : Worker) → w < 8 → view (put_worker m w x) ≡ with_worker (view m) w x
  view_put_worker w x l = same_parts _ _ _ _ _ _ _ _ _ _
      (same_words _ m (λ c a. row_other m w (row_of x) (word c a) (λ j k z. clash (cc))))
      (same_statuses _ m (λ c d. row_other m w (row_of x) (status c d) (λ j k z. clash (cc))))
      (same_bodies _ m (λ c d i. row_other m w (row_of x) (body c d i) (λ j k z. clash (cc))))
      (fun_ext (λ v. upd_if (λ (y : Worker). worker_in (put_worker m w x) v ≡ y) (workers_of m) w v x
      (λ e. rw e (worker_stored m w x h l))
      (λ q. same_worker m (put_worker m w x) v (λ j. row_other m w (row_of x) (worker v j) (λ i k. workers_apart w v i j (λ z. q (sym z)))))))
      (same_recovery m _ (λ i. row_other m w (row_of x) (recovery i) (λ j k z. clash (cc))))

  pub view_put_recovery : (p : RecoveryPlace) → view (put_recovery m p) ≡ with_recovery (view m) p
  view_put_recovery p = same_parts _ _ _ _ _ _ _ _ _ _
      (same_words _ m (λ c a. recovery_other m p (word c a) (λ j z. clash (cc))))
      (same_statuses _ m (λ c d. recovery_other m p (status c d) (λ j z. clash (cc))))
      (same_bodies _ m (λ c d i. recovery_other m p (body c d i) (λ j z. clash (cc))))
      (same_workers _ m (λ w i. recovery_other m p (worker w i) (λ j z. clash (cc))))
      (recovery_stored m p h)

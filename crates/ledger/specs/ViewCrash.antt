-- A crash on the view: every cached copy becomes the persisted one, all workers idle, recovery at descriptor 0. And a fresh memory on the view.
use Rattle.std.specs.Prelude.{◌≡◌, Bool, true, false, [], ℕ, ◌≤◌, ltb}
use Rattle.std.proofs.Math.Path.{refl, ap, fun_ext}
use Rattle.std.proofs.Common.{◌∙◌, arith, ltb-true, ltb-false, le-ltb}
use Rattle.word.specs.Word.{sort_of}
use Rattle.word.specs.Status.{status_of}
use Rattle.word.specs.declared.Status.TheVariants.{Free}
use Rattle.steps.specs.declared.Worker.TheVariants.{Idle}
use Rattle.steps.specs.declared.RecoveryPlace.TheVariants.{At, Outside}
use Rattle.codes.specs.Row.{worker_of}
use Rattle.memory.specs.declared.Copy.{Copy}
use Rattle.memory.specs.declared.Copy.TheVariants.{Cached, Persisted}
use Rattle.memory.specs.Block.{Block, slot, get}
use Rattle.memory.specs.Block.Field.{word, status, body, worker}
use Rattle.memory.specs.Content.{entry_in, crash_copied, worker_in, idled}
use Rattle.memory.specs.Fresh.{fresh_block}
use Rattle.memory.specs.Fields.{Whole, get_nowhere}
use Rattle.memory.specs.StoreLaws.{idled_idle, idled_other, idled_whole}
use Rattle.memory.specs.CopyLaws.{crash_word, crash_status, crash_body, crash_copy_other, crash_whole}
use Rattle.memory.specs.FreshLaws.{fresh_word, fresh_status, fresh_count, fresh_worker, fresh_recovery}
use Rattle.machine.specs.Recover.{crashed}
use Rattle.ledger.specs.Statement.{firsts, body_in}
use Rattle.ledger.specs.Update.{clash, both_ext}
use Rattle.ledger.specs.Cells.{plain, cell_of, State, crashed_cells, all_idle}
use Rattle.ledger.specs.View.{cells_of, view, same_parts, same_body, view_put_recovery}

-- past the eight workers that a block has room for, all are idle
pub past_worker : (m : Block) (w : ℕ) → 8 ≤ w → worker_in m w ≡ Idle
unfolding slot worker_of
past_worker m w h = rw (get_nowhere m (worker w 0) (rw (le-ltb w 8 h) (omega arith)))

module _ (m : Block) (h : Whole m) where
  abbrev x : Block
  x = idled (crash_copied m) 8

  words : (c : Copy) (a : ℕ) → get x (word c a) ≡ get m (word Persisted a)
  words c a = idled_other (crash_copied m) 8 (word c a) (λ w j e. clash (cc)) ∙ go c
    where
      go : (c : Copy) → get (crash_copied m) (word c a) ≡ get m (word Persisted a)
      go Cached = crash_word m h a
      go Persisted = crash_copy_other m (word Persisted a) (λ b e. clash (cc)) (λ b e. clash (cc)) (λ b j e. clash (cc))

  statuses : (c : Copy) (d : ℕ) → get x (status c d) ≡ get m (status Persisted d)
  statuses c d = idled_other (crash_copied m) 8 (status c d) (λ w j e. clash (cc)) ∙ go c
    where
      go : (c : Copy) → get (crash_copied m) (status c d) ≡ get m (status Persisted d)
      go Cached = crash_status m h d
      go Persisted = crash_copy_other m (status Persisted d) (λ b e. clash (cc)) (λ b e. clash (cc)) (λ b j e. clash (cc))

  bodies : (c : Copy) (d j : ℕ) → get x (body c d j) ≡ get m (body Persisted d j)
  bodies c d j = idled_other (crash_copied m) 8 (body c d j) (λ w j e. clash (cc)) ∙ go c
    where
      go : (c : Copy) → get (crash_copied m) (body c d j) ≡ get m (body Persisted d j)
      go Cached = crash_body m h d j
      go Persisted = crash_copy_other m (body Persisted d j) (λ b e. clash (cc)) (λ b e. clash (cc)) (λ b i e. clash (cc))

  workers : (w : ℕ) → worker_in x w ≡ Idle
  workers w = go (ltb w 8) refl
    where
      go : (t : Bool) → ltb w 8 ≡ t → worker_in x w ≡ Idle
      go true e = idled_idle (crash_copied m) 8 w (crash_whole m h) (omega arith) (ltb-true _ _ e)
      go false e = past_worker x w (ltb-false _ _ e)

  pub view_crash : view (crashed m) ≡ record { cells = crashed_cells (cells_of m); worker = all_idle; recovery = At 0 0 }
  unfolding crashed
  view_crash = view_put_recovery x (idled_whole (crash_copied m) 8 (crash_whole m h)) (At 0 0)
      ∙ same_parts _ _ _ _ _ _ _ _ _ _
      (both_ext _ _ (λ c a. ap (λ (n : ℕ). cell_of (sort_of n)) (words c a)))
      (both_ext _ _ (λ c d. ap status_of (statuses c d)))
      (both_ext _ _ (λ c d. same_body x m c Persisted d (bodies c d)))
      (fun_ext workers)
      refl

-- the value of a fresh word
abbrev pub fresh_value : ℕ
fresh_value = 0

abbrev pub fresh_state : State
fresh_state = record { cells = record { word = λ c a. plain fresh_value; status = λ c d. Free; body = λ c d. [] }; worker = all_idle; recovery = Outside }

pub view_fresh : (n k w : ℕ) → view (fresh_block n k w) ≡ fresh_state
unfolding body_in firsts
view_fresh n k w = same_parts _ _ _ _ _ _ _ _ _ _
    (both_ext _ _ (λ c a. ap cell_of (fresh_word n k w c a)))
    (both_ext _ _ (λ c d. fresh_status n k w c d))
    (both_ext _ _ (λ c d. ap (λ (i : ℕ). firsts i (entry_in c (fresh_block n k w) d)) (fresh_count n k w c d)))
    (fun_ext (λ v. fresh_worker n k w v))
    (fresh_recovery n k w)

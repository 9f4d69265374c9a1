-- The instant: one operation at a time, by its desired values, and the ledger holds its expected values then.
use Rattle.std.specs.Prelude.{◌≡◌, ◌≢◌, Bool, List, length, get_or}
use Rattle.std.proofs.Math.Path.{refl, ap}
use Rattle.std.proofs.Common.{sym, ◌∙◌, subst, arith}
use Rattle.std.proofs.Math.Bool.{true, false}
use Prim.Native.Nat.{ℕ, suc, ◌≤◌, ◌<◌}
use Rattle.std.proofs.Math.Decide.{dec_lt}
use Rattle.word.specs.declared.Outcome.TheVariants.{Succeeded, Failed}
use Rattle.word.specs.declared.Status.{Status}
use Rattle.word.specs.declared.Status.TheVariants.{Free, Undecided}
use Rattle.steps.specs.declared.Entry.{Entry}
use Rattle.memory.specs.declared.Copy.TheVariants.{Cached, Persisted}
use Rattle.memory.specs.Block.{Block}
use Rattle.memory.specs.Content.{count_in, entry_in}
use Rattle.events.specs.declared.Event.{Event}
use Rattle.events.specs.declared.Event.TheVariants.{Submit, Crash}
use Rattle.events.specs.declared.Answer.{Answer}
use Rattle.ledger.specs.Statement.{body_in, entered, memory_at, enters, ledger}
use Rattle.ledger.specs.Update.{clash}
use Rattle.ledger.specs.Cells.{Body, State}
use Rattle.ledger.specs.View.{cells_of, view}
use Rattle.ledger.specs.Seen.{address_at, body_length, body_entry}
use Rattle.ledger.specs.Meaning.{has-at}
use Rattle.ledger.specs.Agree.{AllBelong, Pair, equal, begun, decided, settled, freed}
use Rattle.ledger.specs.StatusRules.{fires}
use Rattle.ledger.specs.Fire.{Wrote, wrote_none, fires_same, put_one}
use Rattle.ledger.specs.Read.{entered_cells}
use Rattle.ledger.specs.Invariant.{Invariant}
use Rattle.ledger.proofs.Machine.{Turn, refused, opens, adds, removes, submits, discards, begins, works, reads, clears, backs_word, backs_status, backs_body, crashes, recovers}
use Rattle.ledger.proofs.Turns.{turn_ok}
use Rattle.ledger.proofs.History.{memory_next, memory_past, event_turns}
use Rattle.ledger.proofs.Moments.{At, at_every_moment, below_cells, in_ledger, Differed, sent}

-- what a turn does to persisted statuses
module _ (n k : ℕ) (kp : 0 < k) {s : State} {L : ℕ → ℕ} {In : ℕ → Bool} {D : ℕ → Type 0} {Sent : ℕ → Body} (I : Invariant n k s L In D Sent) where
  by_turn : (e : Event) (t : State) (r : Answer) → ((w : ℕ) → e ≢ Submit w) → Turn n k s e t r → Wrote s.cells t.cells
  by_turn e t r ns x = (turn_ok n k I (λ d. Unit {0}) Sent (λ d z. tt) (λ d. refl) (λ d a h q. tt) kp e t r ns x).1

  pub turn_wrote : (e : Event) (t : State) (r : Answer) → Turn n k s e t r → Wrote s.cells t.cells
  turn_wrote e t r (refused f x) = wrote_none s.cells s.cells refl
  turn_wrote e t r (submits u d a o) = wrote_none s.cells s.cells refl
  turn_wrote e t r (opens u d a l c b o) = by_turn e t r (λ v z. clash (cc)) (opens u d a l c b o)
  turn_wrote e t r (adds u d j x b a g y l) = by_turn e t r (λ v z. clash (cc)) (adds u d j x b a g y l)
  turn_wrote e t r (removes u d x j b a y) = by_turn e t r (λ v z. clash (cc)) (removes u d x j b a y)
  turn_wrote e t r (discards u d a) = by_turn e t r (λ v z. clash (cc)) (discards u d a)
  turn_wrote e t r (begins u x a o) = by_turn e t r (λ v z. clash (cc)) (begins u x a o)
  turn_wrote e t r (works u o d j x busy a y alone) = by_turn e t r (λ v z. clash (cc)) (works u o d j x busy a y alone)
  turn_wrote e t r (reads u x y a o) = by_turn e t r (λ v z. clash (cc)) (reads u x y a o)
  turn_wrote e t r (clears u x y j a o) = by_turn e t r (λ v z. clash (cc)) (clears u x y j a o)
  turn_wrote e t r (backs_word a o) = by_turn e t r (λ v z. clash (cc)) (backs_word a o)
  turn_wrote e t r (backs_status d o) = by_turn e t r (λ v z. clash (cc)) (backs_status d o)
  turn_wrote e t r (backs_body d o) = by_turn e t r (λ v z. clash (cc)) (backs_body d o)
  turn_wrote e t r crashes = by_turn e t r (λ v z. clash (cc)) crashes
  turn_wrote e t r (recovers d j x o y) = by_turn e t r (λ v z. clash (cc)) (recovers d j x o y)

-- what fires is decided Succeeded in cached memory and undecided in persisted memory, with every word in place
fires_all : {all none : Type 0} {c p : Status} → Pair all none c p → fires c p ≡ true → all × (p ≡ Undecided)
fires_all (equal s) e = let z = fires_same s in clash (cc)
fires_all begun e = clash (cc)
fires_all (decided Succeeded a) e = (a refl, refl)
fires_all (decided Failed a) e = clash (cc)
fires_all (settled Succeeded x y) e = clash (cc)
fires_all (settled Failed x y) e = clash (cc)
fires_all (freed s q) e = clash (cc)

module _ (n k w : ℕ) (nn : n ≤ 64) (kk : k ≤ 16) (ww : w ≤ 8) (kp : 0 < k) (es : List Event) (i : ℕ) where
  abbrev m : ℕ → Block
  m j = memory_at n k w es j

  pub inv : Invariant n k (view (m i)) (ledger n k w es i) (in_ledger n k w es i) (Differed n k w es i) (sent n k w es i)
  unfolding At
  inv = at_every_moment n k w es nn kk ww kp i

  wrote_at : Wrote (cells_of (m i)) (cells_of (m (suc i)))
  wrote_at = elim (dec_lt i (length es)) [
    | yes l ↦ subst (λ (x : Block). Wrote (cells_of (m i)) (cells_of x)) (sym (memory_next n k w es i l)) (turn_wrote n k kp inv _ _ _ (event_turns n k w nn kk ww kp es i inv (get_or es i Crash)))
    | no l ↦ subst (λ (x : Block). Wrote (cells_of (m i)) (cells_of x)) (sym (memory_past n k w es i (omega arith))) (wrote_none (cells_of (m i)) (cells_of (m i)) refl)
  ]

  module _ (d : ℕ) (e : enters n k w es i d ≡ true) where
    pub fired : fires ((cells_of (m i)).status Cached d) ((cells_of (m i)).status Persisted d) ≡ true
    unfolding enters
    fired = wrote_at.backed d e

    pub all : AllBelong (cells_of (m i)) d × ((cells_of (m i)).status Persisted d ≡ Undecided)
    all = fires_all (inv.agrees.pair d) fired

    pub live : (cells_of (m i)).status Persisted d ≢ Free
    live z = let y = all.1 in clash (cc)

    pub below_k : d < k
    below_k = (inv.bodies Persisted d live).2

    pub one_only : (f : ℕ) → enters n k w es i f ≡ true → f ≡ d
    unfolding enters
    one_only f g = wrote_at.single f d g e

    small : (f : ℕ) → count_in Persisted (m i) f ≤ 4
    small f = rw (← body_length Persisted (m i) f) (inv.fits.body Persisted f).size

    -- the ledger changes by all the desired values of that one operation at once
    pub by_one : (a : ℕ) → ledger n k w es (suc i) a ≡ entered (m i) d (ledger n k w es i) a
    unfolding ledger
    by_one a = ap (λ (f : ℕ → ℕ). f a) (below_cells k (enters n k w es i) (m i) (ledger n k w es i) small ∙ put_one k (enters n k w es i) (λ f. body_in Persisted (m i) f) (ledger n k w es i) d below_k off)
        ∙ rw e (sym (entered_cells (m i) d (small d) (ledger n k w es i) a))
      where
        off : (f : ℕ) → f ≢ d → enters n k w es i f ≡ false
        off f q = go (enters n k w es i f) refl
          where
            go : (t : Bool) → enters n k w es i f ≡ t → enters n k w es i f ≡ false
            go true z = absurd (q (one_only f z))
            go false z = z

    -- and then it holds all its expected values
    pub expected : (j : ℕ) → j < count_in Persisted (m i) d → ledger n k w es i (entry_in Persisted (m i) d j).address ≡ (entry_in Persisted (m i) d j).expected
    expected j l = subst (λ (x : Entry). ledger n k w es i x.address ≡ x.expected) (body_entry Persisted (m i) d j l)
        (sym (inv.agrees.value Persisted (address_at b j)) ∙ rw (all.0 Persisted (address_at b j) (has-at b j l'), all.1) ((inv.bodies Persisted d live).0.expected j l'))
      where
        b : Body
        b = body_in Persisted (m i) d

        l' : j < length b
        l' = rw (body_length Persisted (m i) d) l

-- The rules: every change of memory outside a crash. Each keeps the invariant; one of them moves the ledger.
use Rattle.std.specs.Prelude.{◌≡◌, Bool, true, false, cond, ℕ}
use Rattle.word.specs.declared.Outcome.{Outcome}
use Rattle.word.specs.declared.Outcome.TheVariants.{Succeeded, Failed}
use Rattle.word.specs.declared.Status.TheVariants.{Free, Undecided, Decided}
use Rattle.memory.specs.declared.Copy.TheVariants.{Cached, Persisted}
use Rattle.memory.specs.Value.{succeeded}
use Rattle.ledger.specs.Update.{upd}
use Rattle.ledger.specs.Cells.{plain, pointer, Belongs, Body, Cells, set_word, set_status, set_body}
use Rattle.ledger.specs.Meaning.{Has, expected_of, stands, put_all}
use Rattle.ledger.specs.Agree.{AllBelong, NoneBelongs, Agrees}
use Rattle.ledger.specs.WordRules
use Rattle.ledger.specs.StatusRules
use Rattle.ledger.specs.StatusRules.{fires}
use Rattle.ledger.specs.BodyRules

pub data Rule (M : Cells) (In : ℕ → Bool) (Differed : ℕ → Type 0) : Cells → Type 0 where
  same : Rule M In Differed M
  back-word : (a : ℕ) → Rule M In Differed (set_word M Persisted a (M.word Cached a))
  back-status : (d : ℕ) → Rule M In Differed (set_status M Persisted d (M.status Cached d))
  back-body : (d : ℕ) → Rule M In Differed (set_body M Persisted d (M.body Cached d))
  install : (d a : ℕ) → M.status Cached d ≡ Undecided → M.status Persisted d ≡ Undecided → Has (M.body Persisted d) a
      → M.word Cached a ≡ plain (expected_of (M.body Persisted d) a) → Rule M In Differed (set_word M Cached a (pointer d))
  swap : (d a v : ℕ) → Belongs d (M.word Cached a) → v ≡ stands (M.status Persisted d) (M.body Persisted d) a
      → succeeded (M.status Cached d) ≡ succeeded (M.status Persisted d) → Rule M In Differed (set_word M Cached a (plain v))
  decide : (d : ℕ) (o : Outcome) → M.status Cached d ≡ Undecided → M.status Persisted d ≡ Undecided → (o ≡ Succeeded → AllBelong M d) → (o ≡ Failed → Differed d)
      → Rule M In Differed (set_status M Cached d (Decided o true))
  clear : (d : ℕ) (o : Outcome) (x y : Bool) → M.status Cached d ≡ Decided o x → M.status Persisted d ≡ Decided o y → Rule M In Differed (set_status M Cached d (Decided o false))
  store-free : (d : ℕ) → NoneBelongs M d → Rule M In Differed (set_status M Cached d Free)
  store_undecided : (d : ℕ) → M.status Cached d ≡ Free → M.status Persisted d ≡ Free → M.body Cached d ≡ M.body Persisted d → In d ≡ false
      → Rule M In Differed (set_status M Cached d Undecided)
  edit : (d : ℕ) (b : Body) → M.status Cached d ≡ Free → M.status Persisted d ≡ Free → Rule M In Differed (set_body M Cached d b)

module _ {M : Cells} {In : ℕ → Bool} {Differed : ℕ → Type 0} where
  -- what a rule makes of the ledger, and of the flags "in the ledger": f d where the instant of d is now, else x
  abbrev pub fired : {new : Cells} → Rule M In Differed new → {A : Type 0} → (ℕ → A) → A → A
  fired same f x = x
  fired (back-word a) f x = x
  fired (back-status d) f x = cond (fires (M.status Cached d) (M.status Persisted d)) (f d) x
  fired (back-body d) f x = x
  fired (install d a _ _ _ _) f x = x
  fired (swap d a v _ _ _) f x = x
  fired (decide d o _ _ _ _) f x = x
  fired (clear d o y z _ _) f x = x
  fired (store-free d _) f x = x
  fired (store_undecided d _ _ _ _) f x = x
  fired (edit d b _ _) f x = x

  -- a rule that a worker on e cannot bear: the owner of e takes it, when nobody else is on e (a swap while e is undecided: recovery, when nobody is)
  abbrev pub OwnersOnly : {new : Cells} → Rule M In Differed new → ℕ → Type 0
  OwnersOnly same e = ⊥
  OwnersOnly (back-word a) e = ⊥
  OwnersOnly (back-status d) e = ⊥
  OwnersOnly (back-body d) e = ⊥
  OwnersOnly (install d a _ _ _ _) e = ⊥
  OwnersOnly (swap d a v _ _ _) e = M.status Cached d ≡ Undecided
  OwnersOnly (decide d o _ _ _ _) e = ⊥
  OwnersOnly (clear d o y z _ _) e = ⊥
  OwnersOnly (store-free d _) e = e ≡ d
  OwnersOnly (store_undecided d _ _ _ _) e = e ≡ d
  OwnersOnly (edit d b _ _) e = e ≡ d

  pub rule_agrees : (L : ℕ → ℕ) {new : Cells} (r : Rule M In Differed new) → Agrees M L In Differed
      → Agrees new (fired r (λ d. put_all (M.body Persisted d) L) L) (fired r (λ d. upd In d true) In) Differed
  rule_agrees L same g = g
  rule_agrees L (back-word a) g = WordRules.back-word M L In Differed g a
  rule_agrees L (back-status d) g = StatusRules.back-status M L In Differed g d
  rule_agrees L (back-body d) g = BodyRules.back-body M L In Differed g d
  rule_agrees L (install d a s u m e) g = WordRules.install M L In Differed g d a s u m e
  rule_agrees L (swap d a v e p w) g = rw p (WordRules.swap M L In Differed g d a e w)
  rule_agrees L (decide d o u v a f) g = StatusRules.decide M L In Differed g d o u v a f
  rule_agrees L (clear d o x y u v) g = StatusRules.clear M L In Differed g d o x y u v
  rule_agrees L (store-free d n) g = StatusRules.store-free M L In Differed g d n
  rule_agrees L (store_undecided d c k b w) g = StatusRules.store_undecided M L In Differed g d k b w
  rule_agrees L (edit d b c k) g = BodyRules.edit M L In Differed g d b c k

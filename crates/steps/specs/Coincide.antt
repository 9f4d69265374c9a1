-- For every public function: two results that keep its promise coincide.
use Rattle.std.specs.Prelude.{◌≡◌, Bool, ℕ, Option}
use Rattle.word.specs.declared.Sort.{Sort}
use Rattle.word.specs.declared.Outcome.{Outcome}
use Rattle.word.specs.declared.Status.{Status}
use Rattle.word.specs.Coincide.{coincide}
use Rattle.steps.specs.declared.Place.{Place}
use Rattle.steps.specs.declared.Seen.{Seen}
use Rattle.steps.specs.declared.Entry.{Entry}
use Rattle.steps.specs.declared.Effect.{Effect}
use Rattle.steps.specs.declared.Next.{Next}
use Rattle.steps.specs.declared.Next.TheVariants.{Go}
use Rattle.steps.specs.declared.Plan.{Plan}
use Rattle.steps.specs.Plan.{read_plan, read_clear_plan}
use Rattle.steps.specs.Plan as P
use Rattle.steps.specs.Operation as O
use Rattle.steps.specs.Recovery.{recovery_plan}
use Rattle.steps.specs.declared.ReadNext.{ReadNext}

pub planned : (e : Effect) (n : Next) (r s : Plan Next) → r ≡ P.planned e n → s ≡ P.planned e n → r ≡ s
planned e n r s = coincide

pub goes : (e : Effect) (p : Place) (r s : Plan Next) → r ≡ P.planned e (Go p) → s ≡ P.planned e (Go p) → r ≡ s
goes e p r s = coincide

pub left-value : (t : Status) (e : Entry) (r s : ℕ) → r ≡ P.left_value t e → s ≡ P.left_value t e → r ≡ s
left-value t e r s = coincide

pub install : (i d : ℕ) (x : Seen) (r s : Plan Next) → r ≡ O.install i d x → s ≡ O.install i d x → r ≡ s
install i d x r s = coincide

pub install-clear : (i v : ℕ) (x : Seen) (r s : Plan Next) → r ≡ O.install_clear i v x → s ≡ O.install_clear i v x → r ≡ s
install-clear i v x r s = coincide

pub persist-clear : (i d : ℕ) (x : Seen) (r s : Plan Next) → r ≡ O.persist_clear i d x → s ≡ O.persist_clear i d x → r ≡ s
persist-clear i d x r s = coincide

pub decide : (o : Outcome) (t : Status) (r s : Plan Next) → r ≡ O.decide o t → s ≡ O.decide o t → r ≡ s
decide o t r s = coincide

pub settle : (t : Status) (r s : Plan Next) → r ≡ O.settle t → s ≡ O.settle t → r ≡ s
settle t r s = coincide

pub settle-clear : (t : Status) (r s : Plan Next) → r ≡ O.settle_clear t → s ≡ O.settle_clear t → r ≡ s
settle-clear t r s = coincide

pub swap : (i d : ℕ) (x : Seen) (r s : Plan Next) → r ≡ O.swap i d x → s ≡ O.swap i d x → r ≡ s
swap i d x r s = coincide

pub swap-clear : (i : ℕ) (x : Seen) (owner : Bool) (r s : Plan Next) → r ≡ O.swap_clear i x owner → s ≡ O.swap_clear i x owner → r ≡ s
swap-clear i x owner r s = coincide

pub store-free : (busy : Bool) (t : Status) (r s : Plan Next) → r ≡ O.store_free busy t → s ≡ O.store_free busy t → r ≡ s
store-free busy t r s = coincide

pub read-plan : (a : ℕ) (x : Sort) (r s : Plan ReadNext) → r ≡ read_plan a x → s ≡ read_plan a x → r ≡ s
read-plan a x r s = coincide

pub read-clear-plan : (a v : ℕ) (x : Sort) (r s : Plan ReadNext) → r ≡ read_clear_plan a v x → s ≡ read_clear_plan a v x → r ≡ s
read-clear-plan a v x r s = coincide

pub recovery-plan : (d done : ℕ) (x : Seen) (r s : Plan (Option ℕ)) → r ≡ recovery_plan d done x → s ≡ recovery_plan d done x → r ≡ s
recovery-plan d done x r s = coincide

-- For every public function: two results, or two final contents, that keep its promise coincide.
use Rattle.std.specs.Prelude.{◌≡◌, Bool, [], ◌∷◌, ℕ, Result}
use Rattle.std.proofs.Common.{ap, Option}
use Rattle.word.specs.Coincide.{coincide}
use Rattle.steps.specs.declared.Entry.{Entry}
use Rattle.steps.specs.declared.Own.{Own}
use Rattle.steps.specs.declared.Worker.{Worker}
use Rattle.steps.specs.declared.RecoveryPlace.{RecoveryPlace}
use Rattle.memory.specs.Block.{Block}
use Rattle.events.specs.declared.Answer.{Answer}
use Rattle.events.specs.Left.{Left, left}
use Rattle.events.specs.declared.Refusal.{Refusal}
use Rattle.events.specs.Named.{refused_once}
use Rattle.events.specs.Build.{owner_of, lowest_below, opened, build_of, added, removed_at}
use Rattle.events.specs.Refusal.{first_of, refused, open_checks, add_checks, remove_checks, submit_checks, discard_checks, read_checks, step_checks, no_address, no_descriptor, outside_recovery}

-- a memory and an answer
pub both : {x y : Block} {r s : Answer} {z : Left} → left x r ≡ z → left y s ≡ z → (x ≡ y) × (r ≡ s)
both e f = (ap (λ d. d.memory) (coincide e f), ap (λ d. d.answer) (coincide e f))

pub build-of : (x : Worker) (r s : ℕ) → r ≡ build_of x → s ≡ build_of x → r ≡ s
build-of x r s = coincide

pub owner-of : (o : Own) (d : ℕ) (r s : Bool) → r ≡ owner_of o d → s ≡ owner_of o d → r ≡ s
owner-of o d r s = coincide

pub lowest : (m : Block) (k : ℕ) (r s : Option ℕ) → r ≡ lowest_below m k → s ≡ lowest_below m k → r ≡ s
lowest m k r s = coincide

pub refuse_open : (m : Block) (w : ℕ) (x : Worker) (f : Option ℕ) (r s : Result Unit Refusal) → refused r ≡ first_of (open_checks m w x f) → refused s ≡ first_of (open_checks m w x f) → r ≡ s
refuse_open m w x f r s = refused_once r s _

pub refuse_add : (m : Block) (w : ℕ) (x : Worker) (e : Entry) (r s : Result Unit Refusal) → refused r ≡ first_of (add_checks m w x e) → refused s ≡ first_of (add_checks m w x e) → r ≡ s
refuse_add m w x e r s = refused_once r s _

pub refuse_remove : (m : Block) (w : ℕ) (x : Worker) (a : ℕ) (f : Option ℕ) (r s : Result Unit Refusal) → refused r ≡ first_of (remove_checks m w x a f) → refused s ≡ first_of (remove_checks m w x a f) → r ≡ s
refuse_remove m w x a f r s = refused_once r s _

pub refuse_submit : (m : Block) (w : ℕ) (x : Worker) (r s : Result Unit Refusal) → refused r ≡ first_of (submit_checks m w x) → refused s ≡ first_of (submit_checks m w x) → r ≡ s
refuse_submit m w x r s = refused_once r s _

pub refuse_discard : (m : Block) (w : ℕ) (x : Worker) (r s : Result Unit Refusal) → refused r ≡ first_of (discard_checks m w x) → refused s ≡ first_of (discard_checks m w x) → r ≡ s
refuse_discard m w x r s = refused_once r s _

pub refuse_read : (m : Block) (w : ℕ) (x : Worker) (a : ℕ) (r s : Result Unit Refusal) → refused r ≡ first_of (read_checks m w x a) → refused s ≡ first_of (read_checks m w x a) → r ≡ s
refuse_read m w x a r s = refused_once r s _

pub refuse_step : (m : Block) (w : ℕ) (x : Worker) (r s : Result Unit Refusal) → refused r ≡ first_of (step_checks m w x) → refused s ≡ first_of (step_checks m w x) → r ≡ s
refuse_step m w x r s = refused_once r s _

pub refuse_word : (m : Block) (a : ℕ) (r s : Result Unit Refusal) → refused r ≡ first_of (no_address m a ∷ []) → refused s ≡ first_of (no_address m a ∷ []) → r ≡ s
refuse_word m a r s = refused_once r s _

pub refuse_descriptor : (m : Block) (d : ℕ) (r s : Result Unit Refusal) → refused r ≡ first_of (no_descriptor m d ∷ []) → refused s ≡ first_of (no_descriptor m d ∷ []) → r ≡ s
refuse_descriptor m d r s = refused_once r s _

pub refuse_recover : (p : RecoveryPlace) (r s : Result Unit Refusal) → refused r ≡ first_of (outside_recovery p ∷ []) → refused s ≡ first_of (outside_recovery p ∷ []) → r ≡ s
refuse_recover p r s = refused_once r s _

pub add : (m : Block) (d : ℕ) (e : Entry) (x y : Block) → x ≡ added m d e → y ≡ added m d e → x ≡ y
add m d e x y = coincide

pub remove : (m : Block) (d : ℕ) (f : Option ℕ) (x y : Block) → x ≡ removed_at m d f → y ≡ removed_at m d f → x ≡ y
remove m d f x y = coincide

pub open_found : (m : Block) (w : ℕ) (f : Option ℕ) (x y : Block) (r s : Answer) → left x r ≡ opened m w f → left y s ≡ opened m w f → (x ≡ y) × (r ≡ s)
open_found m w f x y r s = both

-- The crate `events`: the contract of every public function, as it is written in src/, asks nothing and gives the equation.
use Rattle.events.specs.Left.{left}
use Rattle.std.specs.Prelude.{[], ◌∷◌, ◌≡◌}
use Rattle.events.specs.Build as B
use Rattle.events.specs.Refusal as R
use Rattle.events.proofs.owner_of.Reads as FnOwnerOf
use Rattle.events.proofs.lowest.Reads as FnLowest
use Rattle.events.proofs.open_found.Reads as FnOpenFound
use Rattle.events.proofs.add.Reads as FnAdd
use Rattle.events.proofs.remove.Reads as FnRemove
use Rattle.events.proofs.build_of.Reads as FnBuildOf
use Rattle.events.proofs.refuse_open.Reads as FnRefuseOpen
use Rattle.events.proofs.refuse_add.Reads as FnRefuseAdd
use Rattle.events.proofs.refuse_remove.Reads as FnRefuseRemove
use Rattle.events.proofs.refuse_submit.Reads as FnRefuseSubmit
use Rattle.events.proofs.refuse_discard.Reads as FnRefuseDiscard
use Rattle.events.proofs.refuse_read.Reads as FnRefuseRead
use Rattle.events.proofs.refuse_step.Reads as FnRefuseStep
use Rattle.events.proofs.refuse_word.Reads as FnRefuseWord
use Rattle.events.proofs.refuse_descriptor.Reads as FnRefuseDescriptor
use Rattle.events.proofs.refuse_recover.Reads as FnRefuseRecover

pub owner-of : (κs o d r o' d' : _) → FnOwnerOf.Asked κs (o, (d, tt)) × (FnOwnerOf.Learnt κs (o, (d, tt)) r (o', (d', tt)) → r ≡ B.owner_of o d)
owner-of _ _ _ _ _ _ = (tt, λ given. given)

pub lowest : (κs m k r m' k' : _) → FnLowest.Asked κs (m, (k, tt)) × (FnLowest.Learnt κs (m, (k, tt)) r (m', (k', tt)) → r ≡ B.lowest_below m.now k)
lowest _ _ _ _ _ _ = (tt, λ given. given)

pub open_found : (κs m w f r m' w' f' : _) → FnOpenFound.Asked κs (m, (w, (f, tt))) × (FnOpenFound.Learnt κs (m, (w, (f, tt))) r (m', (w', (f', tt))) → left m'.now r ≡ B.opened m.now w f)
open_found _ _ _ _ _ _ _ _ = (tt, λ given. given)

pub add : (κs m d e r m' d' e' : _) → FnAdd.Asked κs (m, (d, (e, tt))) × (FnAdd.Learnt κs (m, (d, (e, tt))) r (m', (d', (e', tt))) → m'.now ≡ B.added m.now d e)
add _ _ _ _ _ _ _ _ = (tt, λ given. given)

pub remove : (κs m d f r m' d' f' : _) → FnRemove.Asked κs (m, (d, (f, tt))) × (FnRemove.Learnt κs (m, (d, (f, tt))) r (m', (d', (f', tt))) → m'.now ≡ B.removed_at m.now d f)
remove _ _ _ _ _ _ _ _ = (tt, λ given. given)

pub build-of : (κs x r x' : _) → FnBuildOf.Asked κs (x, tt) × (FnBuildOf.Learnt κs (x, tt) r (x', tt) → r ≡ B.build_of x)
build-of _ _ _ _ = (tt, λ given. given)

pub refuse_open : (κs m w x f r m' w' x' f' : _) → FnRefuseOpen.Asked κs (m, (w, (x, (f, tt)))) × (FnRefuseOpen.Learnt κs (m, (w, (x, (f, tt)))) r (m', (w', (x', (f', tt)))) → R.refused r ≡ R.first_of (R.open_checks m.now w x f))
refuse_open _ _ _ _ _ _ _ _ _ _ = (tt, λ given. given)

pub refuse_add : (κs m w x e r m' w' x' e' : _) → FnRefuseAdd.Asked κs (m, (w, (x, (e, tt)))) × (FnRefuseAdd.Learnt κs (m, (w, (x, (e, tt)))) r (m', (w', (x', (e', tt)))) → R.refused r ≡ R.first_of (R.add_checks m.now w x e))
refuse_add _ _ _ _ _ _ _ _ _ _ = (tt, λ given. given)

pub refuse_remove : (κs m w x a f r m' w' x' a' f' : _) → FnRefuseRemove.Asked κs (m, (w, (x, (a, (f, tt))))) × (FnRefuseRemove.Learnt κs (m, (w, (x, (a, (f, tt))))) r (m', (w', (x', (a', (f', tt))))) → R.refused r ≡ R.first_of (R.remove_checks m.now w x a f))
refuse_remove _ _ _ _ _ _ _ _ _ _ _ _ = (tt, λ given. given)

pub refuse_submit : (κs m w x r m' w' x' : _) → FnRefuseSubmit.Asked κs (m, (w, (x, tt))) × (FnRefuseSubmit.Learnt κs (m, (w, (x, tt))) r (m', (w', (x', tt))) → R.refused r ≡ R.first_of (R.submit_checks m.now w x))
refuse_submit _ _ _ _ _ _ _ _ = (tt, λ given. given)

pub refuse_discard : (κs m w x r m' w' x' : _) → FnRefuseDiscard.Asked κs (m, (w, (x, tt))) × (FnRefuseDiscard.Learnt κs (m, (w, (x, tt))) r (m', (w', (x', tt))) → R.refused r ≡ R.first_of (R.discard_checks m.now w x))
refuse_discard _ _ _ _ _ _ _ _ = (tt, λ given. given)

pub refuse_read : (κs m w x a r m' w' x' a' : _) → FnRefuseRead.Asked κs (m, (w, (x, (a, tt)))) × (FnRefuseRead.Learnt κs (m, (w, (x, (a, tt)))) r (m', (w', (x', (a', tt)))) → R.refused r ≡ R.first_of (R.read_checks m.now w x a))
refuse_read _ _ _ _ _ _ _ _ _ _ = (tt, λ given. given)

pub refuse_step : (κs m w x r m' w' x' : _) → FnRefuseStep.Asked κs (m, (w, (x, tt))) × (FnRefuseStep.Learnt κs (m, (w, (x, tt))) r (m', (w', (x', tt))) → R.refused r ≡ R.first_of (R.step_checks m.now w x))
refuse_step _ _ _ _ _ _ _ _ = (tt, λ given. given)

pub refuse_word : (κs m a r m' a' : _) → FnRefuseWord.Asked κs (m, (a, tt)) × (FnRefuseWord.Learnt κs (m, (a, tt)) r (m', (a', tt)) → R.refused r ≡ R.first_of (R.no_address m.now a ∷ []))
refuse_word _ _ _ _ _ _ = (tt, λ given. given)

pub refuse_descriptor : (κs m d r m' d' : _) → FnRefuseDescriptor.Asked κs (m, (d, tt)) × (FnRefuseDescriptor.Learnt κs (m, (d, tt)) r (m', (d', tt)) → R.refused r ≡ R.first_of (R.no_descriptor m.now d ∷ []))
refuse_descriptor _ _ _ _ _ _ = (tt, λ given. given)

pub refuse_recover : (κs p r p' : _) → FnRefuseRecover.Asked κs (p, tt) × (FnRefuseRecover.Learnt κs (p, tt) r (p', tt) → R.refused r ≡ R.first_of (R.outside_recovery p ∷ []))
refuse_recover _ _ _ _ = (tt, λ given. given)

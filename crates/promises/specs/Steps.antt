-- The crate `steps`: the contract of every public function, as it is written in src/, asks nothing and gives the equation.
use Rattle.steps.specs.declared.Next.TheVariants.{Go}
use Rattle.std.specs.Prelude.{◌≡◌}
use Rattle.steps.specs.Operation as O
use Rattle.steps.specs.Plan as P
use Rattle.steps.specs.Recovery as R
use Rattle.steps.proofs.planned.Reads as FnPlanned
use Rattle.steps.proofs.goes.Reads as FnGoes
use Rattle.steps.proofs.left_value.Reads as FnLeftValue
use Rattle.steps.proofs.read_plan.Reads as FnReadPlan
use Rattle.steps.proofs.read_clear_plan.Reads as FnReadClearPlan
use Rattle.steps.proofs.install.Reads as FnInstall
use Rattle.steps.proofs.install_clear.Reads as FnInstallClear
use Rattle.steps.proofs.persist_clear.Reads as FnPersistClear
use Rattle.steps.proofs.decide.Reads as FnDecide
use Rattle.steps.proofs.settle.Reads as FnSettle
use Rattle.steps.proofs.settle_clear.Reads as FnSettleClear
use Rattle.steps.proofs.swap.Reads as FnSwap
use Rattle.steps.proofs.swap_clear.Reads as FnSwapClear
use Rattle.steps.proofs.store_free.Reads as FnStoreFree
use Rattle.steps.proofs.recovery_plan.Reads as FnRecoveryPlan

pub planned : (κs effect next r effect' next' : _) → FnPlanned.Asked κs (effect, (next, tt)) × (FnPlanned.Learnt κs (effect, (next, tt)) r (effect', (next', tt)) → r ≡ P.planned effect next)
planned _ _ _ _ _ _ = (tt, λ given. given)

pub goes : (κs effect p r effect' p' : _) → FnGoes.Asked κs (effect, (p, tt)) × (FnGoes.Learnt κs (effect, (p, tt)) r (effect', (p', tt)) → r ≡ P.planned effect (Go p))
goes _ _ _ _ _ _ = (tt, λ given. given)

pub left-value : (κs t e r t' e' : _) → FnLeftValue.Asked κs (t, (e, tt)) × (FnLeftValue.Learnt κs (t, (e, tt)) r (t', (e', tt)) → r ≡ P.left_value t e)
left-value _ _ _ _ _ _ = (tt, λ given. given)

pub read-plan : (κs a s r a' s' : _) → FnReadPlan.Asked κs (a, (s, tt)) × (FnReadPlan.Learnt κs (a, (s, tt)) r (a', (s', tt)) → r ≡ P.read_plan a s)
read-plan _ _ _ _ _ _ = (tt, λ given. given)

pub read-clear-plan : (κs a v s r a' v' s' : _) → FnReadClearPlan.Asked κs (a, (v, (s, tt))) × (FnReadClearPlan.Learnt κs (a, (v, (s, tt))) r (a', (v', (s', tt))) → r ≡ P.read_clear_plan a v s)
read-clear-plan _ _ _ _ _ _ _ _ = (tt, λ given. given)

pub install : (κs i d s r i' d' s' : _) → FnInstall.Asked κs (i, (d, (s, tt))) × (FnInstall.Learnt κs (i, (d, (s, tt))) r (i', (d', (s', tt))) → r ≡ O.install i d s)
install _ _ _ _ _ _ _ _ = (tt, λ given. given)

pub install-clear : (κs i v s r i' v' s' : _) → FnInstallClear.Asked κs (i, (v, (s, tt))) × (FnInstallClear.Learnt κs (i, (v, (s, tt))) r (i', (v', (s', tt))) → r ≡ O.install_clear i v s)
install-clear _ _ _ _ _ _ _ _ = (tt, λ given. given)

pub persist-clear : (κs i d s r i' d' s' : _) → FnPersistClear.Asked κs (i, (d, (s, tt))) × (FnPersistClear.Learnt κs (i, (d, (s, tt))) r (i', (d', (s', tt))) → r ≡ O.persist_clear i d s)
persist-clear _ _ _ _ _ _ _ _ = (tt, λ given. given)

pub decide : (κs o t r o' t' : _) → FnDecide.Asked κs (o, (t, tt)) × (FnDecide.Learnt κs (o, (t, tt)) r (o', (t', tt)) → r ≡ O.decide o t)
decide _ _ _ _ _ _ = (tt, λ given. given)

pub settle : (κs t r t' : _) → FnSettle.Asked κs (t, tt) × (FnSettle.Learnt κs (t, tt) r (t', tt) → r ≡ O.settle t)
settle _ _ _ _ = (tt, λ given. given)

pub settle-clear : (κs t r t' : _) → FnSettleClear.Asked κs (t, tt) × (FnSettleClear.Learnt κs (t, tt) r (t', tt) → r ≡ O.settle_clear t)
settle-clear _ _ _ _ = (tt, λ given. given)

pub swap : (κs i d s r i' d' s' : _) → FnSwap.Asked κs (i, (d, (s, tt))) × (FnSwap.Learnt κs (i, (d, (s, tt))) r (i', (d', (s', tt))) → r ≡ O.swap i d s)
swap _ _ _ _ _ _ _ _ = (tt, λ given. given)

pub swap-clear : (κs i s owner r i' s' owner' : _) → FnSwapClear.Asked κs (i, (s, (owner, tt))) × (FnSwapClear.Learnt κs (i, (s, (owner, tt))) r (i', (s', (owner', tt))) → r ≡ O.swap_clear i s owner)
swap-clear _ _ _ _ _ _ _ _ = (tt, λ given. given)

pub store-free : (κs busy t r busy' t' : _) → FnStoreFree.Asked κs (busy, (t, tt)) × (FnStoreFree.Learnt κs (busy, (t, tt)) r (busy', (t', tt)) → r ≡ O.store_free busy t)
store-free _ _ _ _ _ _ = (tt, λ given. given)

pub recovery-plan : (κs d done s r d' done' s' : _) → FnRecoveryPlan.Asked κs (d, (done, (s, tt))) × (FnRecoveryPlan.Learnt κs (d, (done, (s, tt))) r (d', (done', (s', tt))) → r ≡ R.recovery_plan d done s)
recovery-plan _ _ _ _ _ _ _ _ = (tt, λ given. given)

-- The crate `schedule`: the contract of every public function, as it is written in src/, asks nothing and gives the equation.
use Rattle.std.specs.Prelude.{◌≤◌, ◌≡◌}
use Rattle.events.specs.Event.{kind_of}
use Rattle.events.specs.Refusal.{first_of}
use Rattle.schedule.specs.Content.{event_of, setup_of}
use Rattle.schedule.specs.Record.{body_of, head_checks, head_of, refusal_of}
use Rattle.schedule.proofs.head_at.Reads as FnHeadAt
use Rattle.schedule.proofs.body_at.Reads as FnBodyAt
use Rattle.schedule.proofs.event_of.Reads as FnEventOf
use Rattle.schedule.proofs.setup_of.Reads as FnSetupOf

pub head_at : (κs s at started r s' at' started' : _) → FnHeadAt.Asked κs (s, (at, (started, tt))) × (FnHeadAt.Learnt κs (s, (at, (started, tt))) r (s', (at', (started', tt))) → (r ≡ head_of started s.now at) × (refusal_of r ≡ first_of (head_checks started s.now at)))
head_at _ _ _ _ _ _ _ _ = (tt, λ given. given)

pub body_at : (κs s at kind r s' at' kind' : _) → FnBodyAt.Asked κs (s, (at, (kind, tt))) × (FnBodyAt.Learnt κs (s, (at, (kind, tt))) r (s', (at', (kind', tt))) → r.now ≡ body_of s.now at kind)
body_at _ _ _ _ _ _ _ _ = (tt, λ given. given)

pub event-of : (κs kind body r kind' body' : _) → FnEventOf.Asked κs (kind, (body, tt)) × (FnEventOf.Learnt κs (kind, (body, tt)) r (kind', (body', tt)) → (r ≡ event_of kind body.now) × ((0x01 ≤ kind → kind ≤ 0x0C → kind_of r ≡ kind)))
event-of _ _ _ _ _ _ = (tt, λ given. given)

pub setup-of : (κs body r body' : _) → FnSetupOf.Asked κs (body, tt) × (FnSetupOf.Learnt κs (body, tt) r (body', tt) → r ≡ setup_of body.now)
setup-of _ _ _ _ = (tt, λ given. given)

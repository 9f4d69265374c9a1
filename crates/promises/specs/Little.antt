-- The crate `little`: the contract of every public function, as it is written in src/, asks nothing and gives the equation.
use Rattle.little.specs.Number.{number_at, with_number}
use Rattle.std.specs.Prelude.{◌≡◌}
use Rattle.little.proofs.read_u64.Reads as FnReadU64
use Rattle.little.proofs.write_u64.Reads as FnWriteU64

pub read_u64 : (κs s at r s' at' : _) → FnReadU64.Asked κs (s, (at, tt)) × (FnReadU64.Learnt κs (s, (at, tt)) r (s', (at', tt)) → r ≡ number_at s.now at)
read_u64 _ _ _ _ _ _ = (tt, λ given. given)

pub write_u64 : (κs s at v r s' at' v' : _) → FnWriteU64.Asked κs (s, (at, (v, tt))) × (FnWriteU64.Learnt κs (s, (at, (v, tt))) r (s', (at', (v', tt))) → s'.now ≡ with_number s.now at v)
write_u64 _ _ _ _ _ _ _ _ = (tt, λ given. given)

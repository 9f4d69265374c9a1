-- The crate `feed`: the contract of every public function, as it is written in src/, asks nothing and gives the equation. `read_on` takes a reader of any type: what is asked there is what the
-- language asks of every `&mut` to such a type, that the type outlives the borrow, and nothing of a value.
use contract.BorrowLft.{◌⊑◌}
use contract.Lifetimes.{lft_at}
use denote.RattleType.{RattleType}
use Rattle.std.specs.Prelude.{◌≤◌, length, take, ◌≡◌}
use Rattle.feed.specs.Feed.{kept, kept_of}
use Rattle.feed.proofs.read_on.Reads as FnReadOn
use Rattle.feed.proofs.keep.Reads as FnKeep

pub read-on : (T : RattleType) (L G D κs input buf have r input' buf' have' : _) → (lft_at 3 2 tt κs ⊑ T.lives → FnReadOn.Asked T L G D κs (input, (buf, (have, tt)))) × (FnReadOn.Learnt T L G D κs (input, (buf, (have, tt))) r (input', (buf', (have', tt))) → ((length buf'.now ≡ length buf.now) × ((r ≤ length buf'.now) × (take have buf'.now ≡ take have buf.now))) × (((have ≤ length buf.now → have ≤ r)) × ((length buf.now ≤ have → r ≡ length buf.now))))
read-on _ _ _ _ _ _ _ _ _ _ _ _ = (λ outlives. outlives, λ given. given)

pub keep : (κs buf from to r buf' from' to' : _) → FnKeep.Asked κs (buf, (from, (to, tt))) × (FnKeep.Learnt κs (buf, (from, (to, tt))) r (buf', (from', (to', tt))) → (kept buf'.now r ≡ kept_of buf.now from to) × (r ≤ length buf.now))
keep _ _ _ _ _ _ _ _ = (tt, λ given. given)

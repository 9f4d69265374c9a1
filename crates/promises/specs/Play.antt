-- The crate `play`: the contract of every public function, as it is written in src/, asks nothing and gives the equation.
use Rattle.std.specs.Prelude.{◌≤◌, length, ◌≡◌}
use Rattle.answers.specs.Put.{filled, put_of}
use Rattle.play.specs.Done as D
use Rattle.play.specs.Reading as R
use Rattle.play.specs.Tick as T
use Rattle.play.proofs.play.Reads as FnPlay
use Rattle.play.proofs.finish.Reads as FnFinish
use Rattle.play.proofs.has_begun.Reads as FnHasBegun
use Rattle.play.proofs.is_over.Reads as FnIsOver

pub play : (κs m stage input out r m' stage' input' out' : _) → FnPlay.Asked κs (m, (stage, (input, (out, tt)))) × (FnPlay.Learnt κs (m, (stage, (input, (out, tt)))) r (m', (stage', (input', (out', tt)))) → (D.done m'.now r out'.now ≡ D.played_into m.now stage input.now out.now) × ((r.used ≤ length input.now) × (r.written ≤ length out.now)))
play _ _ _ _ _ _ _ _ _ _ = (tt, λ given. given)

pub finish : (κs m stage rest out r m' stage' rest' out' : _) → FnFinish.Asked κs (m, (stage, (rest, (out, tt)))) × (FnFinish.Learnt κs (m, (stage, (rest, (out, tt)))) r (m', (stage', (rest', (out', tt)))) → filled out'.now r ≡ put_of out.now 0 (T.closing stage m.now rest.now))
finish _ _ _ _ _ _ _ _ _ _ = (tt, λ given. given)

pub has_begun : (κs stage r stage' : _) → FnHasBegun.Asked κs (stage, tt) × (FnHasBegun.Learnt κs (stage, tt) r (stage', tt) → r ≡ T.begun_in stage)
has_begun _ _ _ _ = (tt, λ given. given)

pub is_over : (κs stage r stage' : _) → FnIsOver.Asked κs (stage, tt) × (FnIsOver.Learnt κs (stage, tt) r (stage', tt) → r ≡ R.over_in stage)
is_over _ _ _ _ = (tt, λ given. given)

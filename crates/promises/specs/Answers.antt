-- The crate `answers`: the contract of every public function, as it is written in src/, asks nothing and gives the equation.
use Rattle.answers.specs.Decimal.{decimal_of}
use Rattle.answers.specs.Line.{last_line, line_of}
use Rattle.answers.specs.Put.{filled, put_of}
use Rattle.std.specs.Prelude.{[], ◌∷◌, ◌≡◌}
use Rattle.answers.proofs.put_line.Reads as FnPutLine
use Rattle.answers.proofs.put_last.Reads as FnPutLast
use Rattle.answers.proofs.put_byte.Reads as FnPutByte
use Rattle.answers.proofs.put_text.Reads as FnPutText
use Rattle.answers.proofs.put_decimal.Reads as FnPutDecimal

pub put_line : (κs out at number a r out' at' number' a' : _) → FnPutLine.Asked κs (out, (at, (number, (a, tt)))) × (FnPutLine.Learnt κs (out, (at, (number, (a, tt)))) r (out', (at', (number', (a', tt)))) → filled out'.now r ≡ put_of out.now at (line_of number a))
put_line _ _ _ _ _ _ _ _ _ _ = (tt, λ given. given)

pub put_last : (κs out at m r out' at' m' : _) → FnPutLast.Asked κs (out, (at, (m, tt))) × (FnPutLast.Learnt κs (out, (at, (m, tt))) r (out', (at', (m', tt))) → filled out'.now r ≡ put_of out.now at (last_line m.now))
put_last _ _ _ _ _ _ _ _ = (tt, λ given. given)

pub put_byte : (κs out at b r out' at' b' : _) → FnPutByte.Asked κs (out, (at, (b, tt))) × (FnPutByte.Learnt κs (out, (at, (b, tt))) r (out', (at', (b', tt))) → filled out'.now r ≡ put_of out.now at (b ∷ []))
put_byte _ _ _ _ _ _ _ _ = (tt, λ given. given)

pub put_text : (κs out at text r out' at' text' : _) → FnPutText.Asked κs (out, (at, (text, tt))) × (FnPutText.Learnt κs (out, (at, (text, tt))) r (out', (at', (text', tt))) → filled out'.now r ≡ put_of out.now at text.now)
put_text _ _ _ _ _ _ _ _ = (tt, λ given. given)

pub put_decimal : (κs out at n r out' at' n' : _) → FnPutDecimal.Asked κs (out, (at, (n, tt))) × (FnPutDecimal.Learnt κs (out, (at, (n, tt))) r (out', (at', (n', tt))) → filled out'.now r ≡ put_of out.now at (decimal_of n))
put_decimal _ _ _ _ _ _ _ _ = (tt, λ given. given)

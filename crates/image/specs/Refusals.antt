-- The refusals of an image by name, and their numbers (document 01, "Images for the C runtime").
use Rattle.std.specs.Prelude.{ℕ, Result, Ok, Err}
use Rattle.image.specs.declared.refusal.Refusal.{Refusal}
use Rattle.image.specs.declared.refusal.Refusal.TheVariants.{Sizes, Length, Status, Body, Word, Pointer}

abbrev pub number : Refusal → ℕ
number Sizes = 1
number Length = 20
number Status = 21
number Body = 22
number Word = 23
number Pointer = 24

-- what the checks come to: the number of the refusal, 0 where nothing is refused
abbrev pub refused : {T : Type 0} → Result T Refusal → ℕ
refused (Ok _) = 0
refused (Err r) = number r

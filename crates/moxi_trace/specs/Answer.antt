-- What the reader answers.
use Rattle.std.specs.Prelude.{◌≡◌, ℕ, Result, Ok, Err}
use Rattle.text_core.specs.declared.place.Refusal.{Refusal}
use Rattle.text_core.specs.declared.end.End.{End}
use Rattle.text_core.specs.declared.end.End.TheVariants.{Bad, NoMemory}
use Rattle.moxi_trace.specs.Reading.{Reading}
use Rattle.moxi_trace.specs.declared.point.Answered.{Answered}
use Rattle.moxi_trace.specs.Responses.{Passing, answered}

-- the same of a byte, which tells how many bytes are to be passed over
abbrev pub Passes : Result Passing Refusal → Reading → Result ℕ End → Type 0
Passes wanted new (Ok n) = wanted ≡ Ok (n, new)
Passes wanted new (Err (Bad refusal)) = wanted ≡ Err refusal
Passes wanted new (Err NoMemory) = Unit {0}

-- the same at the end of a text
abbrev pub Finishes : {B : Type 0} → Result Answered Refusal → Reading → Result B End → Type 0
Finishes wanted new (Ok done) = wanted ≡ answered new
Finishes wanted new (Err (Bad refusal)) = wanted ≡ Err refusal
Finishes wanted new (Err NoMemory) = Unit {0}

-- Steps that don't go on.
use Rattle.std.proofs.Common.{Result, Ok, Err}
use Rattle.std.specs.Prelude.{IfErr}
use Rattle.command_core.specs.declared.answer.Stop.{Stop}
use Rattle.command_core.specs.declared.answer.Stop.TheVariants.{Answered, NoMemory}
use Rattle.command_core.specs.Reading.{OnNoMemory}

-- what holds, holds where memory is wanting
pub always : {P : Type 0} (stop : Stop) → P → OnNoMemory P stop
always (Answered answer) p = tt
always NoMemory p = p

pub held : {T P : Type 0} (result : Result T Stop) → P → IfErr result (OnNoMemory P)
held (Ok x) p = tt
held (Err stop) p = always stop p

-- what isn't out of memory
pub never : {T : Type 0} (P : Type 0) (result : Result T Stop) → IfErr result (OnNoMemory ⊥) → IfErr result (OnNoMemory P)
never P (Ok x) h = tt
never P (Err (Answered answer)) h = tt
never P (Err NoMemory) h = absurd h

-- The numbers of the statuses.
use Rattle.std.specs.Prelude.{ℕ}
use Rattle.command_core.specs.declared.status.Status.{Status}
use Rattle.command_core.specs.declared.status.Status.TheVariants as status

-- the number with which the program ends
abbrev pub number_of : Status → ℕ
number_of status.Done = 0
number_of status.No = 1
number_of status.Refused = 2
number_of status.Usage = 3
number_of status.ReadFault = 4
number_of status.WriteFault = 5
number_of status.NoMemory = 6
number_of status.SecondRefused = 7

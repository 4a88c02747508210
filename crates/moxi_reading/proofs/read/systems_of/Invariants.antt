use Rattle.std.proofs.Common.{◌≡◌, ◌++◌, length, map, reverse}
use Rattle.moxi_scripts.specs.Script.{plain_system}
use Rattle.moxi_scripts.specs.Spelling.{system_of}
use Rattle.moxi_declarations.specs.Views.{plain_reading}
use Rattle.moxi_reading.proofs.read.systems_of.Given as goal

abbrev pub invariant-systems : goal.invariant-systems
invariant-systems l = map plain_system l.all ++ map (system_of l.names) (map plain_reading (reverse l.systems.items)) ≡ map (system_of l.names) (map plain_reading l.fn.systems.items)

abbrev pub decreases-systems : goal.decreases-systems
decreases-systems l = length l.systems.items

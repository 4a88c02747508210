use Rattle.std.proofs.Common.{◌≡◌, ◌+◌, map, drop}
use Rattle.moxi_declarations.specs.Views.{plain_reading}
use Rattle.moxi_scripts.specs.Cycles.{count_uses}
use Rattle.moxi_reading.proofs.cycles.count_uses.Given as goal

abbrev pub invariant-loop-r : goal.invariant-loop-r
invariant-loop-r l = l.count + count_uses (map plain_reading (drop l.r-index l.systems)) ≡ count_uses (map plain_reading l.systems)

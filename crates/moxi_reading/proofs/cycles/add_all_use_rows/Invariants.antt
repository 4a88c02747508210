use Rattle.std.proofs.Common.{◌≡◌, ◌++◌, map, drop, length}
use Rattle.moxi_declarations.specs.Views.{plain_reading}
use Rattle.moxi_scripts.specs.Cycles.{all_use_rows}
use Rattle.moxi_reading.proofs.cycles.add_all_use_rows.Given as goal

abbrev pub invariant-loop-r : goal.invariant-loop-r
invariant-loop-r l = l.graph ++ all_use_rows l.total (length l.systems) l.names (map plain_reading (drop l.r-index l.systems)) ≡ l.fn.graph ++ all_use_rows l.total (length l.systems) l.names (map plain_reading l.systems)

use Rattle.std.proofs.Common.{◌≡◌, ◌++◌, ◌+◌, map, drop}
use Rattle.moxi_declarations.specs.Views.{plain_reading}
use Rattle.moxi_scripts.specs.Cycles.{count_uses, system_rows}
use Rattle.moxi_reading.proofs.cycles.add_system_rows.Given as goal

abbrev pub invariant-loop-r : goal.invariant-loop-r
invariant-loop-r l = record {
  rows : l.graph ++ system_rows l.start (map plain_reading (drop l.r-index l.systems)) ≡ l.fn.graph ++ system_rows 0 (map plain_reading l.systems);
  count : l.start + count_uses (map plain_reading (drop l.r-index l.systems)) ≡ count_uses (map plain_reading l.systems);
}

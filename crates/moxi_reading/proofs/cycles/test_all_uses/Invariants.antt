use Rattle.std.proofs.Common.{◌≡◌, ◌+◌, map, drop}
use Rattle.moxi_scripts.specs.Collecting.{also}
use Rattle.moxi_declarations.specs.Views.{plain_reading}
use Rattle.moxi_scripts.specs.Cycles.{all_cycles, count_uses}
use Rattle.moxi_reading.proofs.cycles.test_all_uses.Given as goal

abbrev pub invariant-loop-r : goal.invariant-loop-r
invariant-loop-r l = record {
  finds : also l.found (all_cycles l.graph l.node (map plain_reading (drop l.r-index l.systems))) ≡ also l.fn.found (all_cycles l.graph 0 (map plain_reading l.systems));
  count : l.node + count_uses (map plain_reading (drop l.r-index l.systems)) ≡ count_uses (map plain_reading l.systems);
}

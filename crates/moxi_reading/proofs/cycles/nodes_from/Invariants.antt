use Rattle.std.proofs.Common.{◌≡◌, ◌++◌, ◌+◌, ◌-◌}
use Rattle.moxi_scripts.specs.Cycles.{nodes_from}
use Rattle.moxi_reading.proofs.cycles.nodes_from.Given as goal

abbrev pub invariant-loop-i : goal.invariant-loop-i
invariant-loop-i l = l.nodes ++ nodes_from (l.start + l.i) (l.count - l.i) ≡ nodes_from l.start l.count

use Rattle.std.proofs.Common.{◌≡◌, ◌++◌}
use Rattle.std.specs.Slice.Iter.{iter_rest}
use Rattle.moxi_scripts.specs.Cycles.{use_rows}
use Rattle.moxi_reading.proofs.cycles.add_use_rows.Given as goal

abbrev pub invariant-loop-u : goal.invariant-loop-u
invariant-loop-u l = l.graph ++ use_rows l.total l.count l.names (iter_rest l.u-iterator) ≡ l.fn.graph ++ use_rows l.total l.count l.names l.uses

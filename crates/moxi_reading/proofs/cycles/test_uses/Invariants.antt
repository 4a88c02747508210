use Rattle.std.proofs.Common.{◌≡◌, ◌+◌, length}
use Rattle.std.specs.Slice.Iter.{iter_rest}
use Rattle.moxi_scripts.specs.Collecting.{also}
use Rattle.moxi_scripts.specs.Cycles.{use_cycles}
use Rattle.moxi_reading.proofs.cycles.test_uses.Given as goal

abbrev pub invariant-loop-i : goal.invariant-loop-i
invariant-loop-i l = record {
  finds : also l.found (use_cycles l.graph (l.node + l.i) (iter_rest l.u-iterator)) ≡ also l.fn.found (use_cycles l.graph l.node l.uses);
  count : l.i + length (iter_rest l.u-iterator) ≡ length l.uses;
}

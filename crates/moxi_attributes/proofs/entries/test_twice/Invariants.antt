use Rattle.std.proofs.Common.{◌≡◌}
use Rattle.std.specs.Slice.Iter.{iter_rest}
use Rattle.moxi_scripts.specs.Collecting.{also}
use Rattle.moxi_scripts.specs.Entries.{names_after, twice_failures}
use Rattle.moxi_attributes.proofs.entries.test_twice.Given as goal

abbrev pub invariant-loop-entry : goal.invariant-loop-entry
invariant-loop-entry l = record {
  names : names_after l.names (iter_rest l.entry-iterator) ≡ names_after l.fn.names l.entries;
  finds : also l.found (twice_failures l.names (iter_rest l.entry-iterator)) ≡ also l.fn.found (twice_failures l.fn.names l.entries);
}

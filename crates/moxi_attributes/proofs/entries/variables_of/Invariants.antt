use Rattle.std.proofs.Common.{◌≡◌, ◌++◌}
use Rattle.std.specs.Slice.Iter.{iter_rest}
use Rattle.moxi_scripts.specs.Entries.{variables_of}
use Rattle.moxi_attributes.proofs.entries.variables_of.Given as goal

abbrev pub invariant-loop-entry : goal.invariant-loop-entry
invariant-loop-entry l = l.variables ++ variables_of (iter_rest l.entry-iterator) ≡ variables_of l.entries

use Rattle.std.proofs.Common.{◌≡◌, ◌++◌, ◌+◌, length}
use Rattle.std.specs.Slice.Iter.{iter_rest}
use Rattle.moxi_scripts.specs.Entries.{locals_among}
use Rattle.moxi_attributes.proofs.entries.locals_among.Given as goal

abbrev pub invariant-loop-entry : goal.invariant-loop-entry
invariant-loop-entry l = record {
  adds : l.locals ++ locals_among (iter_rest l.entry-iterator) ≡ locals_among l.entries;
  long : length l.locals + length (iter_rest l.entry-iterator) ≡ length l.entries;
}

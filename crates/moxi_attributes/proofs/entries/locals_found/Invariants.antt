use Rattle.std.proofs.Common.{◌≡◌, ◌++◌, ◌+◌, length}
use Rattle.std.specs.Slice.Iter.{iter_rest}
use Rattle.moxi_scripts.specs.Entries.{locals_found}
use Rattle.moxi_attributes.proofs.entries.locals_found.Given as goal

abbrev pub invariant-loop-entry : goal.invariant-loop-entry
invariant-loop-entry l = record {
  adds : l.locals ++ locals_found l.text (iter_rest l.entry-iterator) ≡ locals_found l.text l.entries;
  long : length l.locals + length (iter_rest l.entry-iterator) ≡ length l.entries;
}

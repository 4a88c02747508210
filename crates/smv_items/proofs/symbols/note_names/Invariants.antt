use Rattle.std.proofs.Common.{◌≡◌}
use Rattle.std.specs.Slice.Iter.{iter_rest}
use Rattle.smv_items.specs.FlatItems.{gathered}
use Rattle.smv_items.proofs.symbols.note_names.Given as goal

abbrev pub invariant-loop-name : goal.invariant-loop-name
invariant-loop-name l = gathered l.symbols (iter_rest l.name-iterator) ≡ gathered l.fn.symbols l.fn.names

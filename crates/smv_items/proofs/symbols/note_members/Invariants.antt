use Rattle.std.proofs.Common.{◌≡◌}
use Rattle.std.specs.Prelude.{flat_map}
use Rattle.std.specs.Slice.Iter.{iter_rest}
use Rattle.smv_items.specs.FlatItems.{gathered, member_symbols}
use Rattle.smv_items.proofs.symbols.note_members.Given as goal

abbrev pub invariant-loop-member : goal.invariant-loop-member
invariant-loop-member l = gathered l.symbols (flat_map member_symbols (iter_rest l.member-iterator)) ≡ gathered l.fn.symbols (flat_map member_symbols l.fn.members)

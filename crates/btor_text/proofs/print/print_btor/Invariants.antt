use Rattle.std.proofs.Common.{◌≡◌, ◌++◌}
use Rattle.std.specs.List.{flat_map}
use Rattle.std.specs.Slice.Iter.{iter_rest}
use Rattle.btor_tree.specs.Printing.{line_text}
use Rattle.btor_text.proofs.print.print_btor.Given as goal

abbrev pub invariant-loop-line : goal.invariant-loop-line
invariant-loop-line l = l.out ++ flat_map (line_text l.nodes) (iter_rest l.line-iterator) ≡ flat_map (line_text l.nodes) l.nodes

use Rattle.std.proofs.Common.{◌≡◌, ◌++◌, drop, map}
use Rattle.btor_tree.specs.Printing.{operand_text, spaced}
use Rattle.btor_text.proofs.print.put_args.Given as goal

abbrev pub invariant-loop-k : goal.invariant-loop-k
invariant-loop-k l = l.out ++ spaced (map (operand_text l.nodes) (drop l.k l.args)) ≡ l.initial.out ++ spaced (map (operand_text l.nodes) l.args)

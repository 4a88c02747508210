use Rattle.std.proofs.Common.{◌≡◌, ◌<◌, length}
use Rattle.std.specs.List.{AllByRecursion}
use Rattle.std.specs.Prelude.{◌↔◌}
use Rattle.std.specs.Slice.Iter.{iter_rest}
use Rattle.btor_tree.specs.declared.args.Arg.{Arg}
use Rattle.btor_tree.specs.Frame.{operand, true_word}
use Rattle.btor_frames.proofs.frames.Frames.constraints_hold.Given as goal

abbrev pub invariant-loop-constraint : goal.invariant-loop-constraint
invariant-loop-constraint l = record {
  inside : AllByRecursion (λ (a : Arg). a.line < length l.self-inside.row) (iter_rest l.constraint-iterator);
  left : AllByRecursion (λ a. operand l.self-inside.row a ≡ true_word) (iter_rest l.constraint-iterator)
      ↔ AllByRecursion (λ a. operand l.self-inside.row a ≡ true_word) l.self-inside.tables.constraints;
}

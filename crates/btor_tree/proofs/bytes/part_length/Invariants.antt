use Rattle.std.proofs.Common.{◌≡◌, ◌+◌, drop}
use Rattle.btor_tree.specs.Bytes.{part_length}
use Rattle.btor_tree.proofs.bytes.part_length.Given as goal

abbrev pub invariant-loop-b : goal.invariant-loop-b
invariant-loop-b l = record {
  rest_is : l.count + part_length (drop l.b-index l.text) ≡ part_length l.text;
  at : l.count ≡ l.b-index;
}

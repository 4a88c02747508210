use Rattle.std.proofs.Common.{◌≡◌, ◌+◌, drop}
use Rattle.btor_tree.specs.Bytes.{line_length}
use Rattle.btor_tree.proofs.bytes.line_length.Given as goal

abbrev pub invariant-loop-b : goal.invariant-loop-b
invariant-loop-b l = record {
  rest_is : l.count + line_length (drop l.b-index l.text) ≡ line_length l.text;
  at : l.count ≡ l.b-index;
}

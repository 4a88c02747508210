use Rattle.std.proofs.Common.{◌≡◌, ◌≤◌, ◌^◌, drop}
use Rattle.btor_tree.specs.Bytes.{number_after}
use Rattle.btor_tree.proofs.bytes.number.Given as goal

abbrev pub invariant-loop-b : goal.invariant-loop-b
invariant-loop-b l = record {
  rest_is : number_after l.number (drop l.b-index l.digits) ≡ number_after 0 l.digits;
  small : l.number ≤ 2 ^ 31;
}

use Rattle.std.proofs.Common.{◌≡◌, ◌≤◌, ◌+◌, drop}
use Rattle.moxi_sexpr.specs.Reading.{line_ends}
use Rattle.moxi_sexpr.proofs.ends.line_ends.Given as goal

abbrev pub invariant-loop-b : goal.invariant-loop-b
invariant-loop-b l = record {
  rest_is : l.count + line_ends (drop l.b-index l.text) ≡ line_ends l.text;
  few : l.count ≤ l.b-index;
}

use Rattle.std.proofs.Common.{◌≡◌, ◌+◌, drop}
use Rattle.moxi_sexpr.specs.Bytes.{belongs}
use Rattle.moxi_sexpr.specs.Reading.{run_length}
use Rattle.moxi_sexpr.proofs.bytes.run_length.Given as goal

abbrev pub invariant-loop-b : goal.invariant-loop-b
invariant-loop-b l = record {
  rest_is : l.count + run_length (belongs l.set) (drop l.b-index l.text) ≡ run_length (belongs l.set) l.text;
  all : l.count ≡ l.b-index;
}

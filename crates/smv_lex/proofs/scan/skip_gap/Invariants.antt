use Rattle.std.proofs.Common.{length}
use Rattle.text_core.specs.Places.{Reaches}
use Rattle.smv_lex.proofs.Gaps.{AreBehind}
use Rattle.smv_lex.proofs.scan.skip_gap.Given as goal

abbrev pub invariant-loop-b : goal.invariant-loop-b
invariant-loop-b l = record {
  behind : AreBehind l.at l.inside l.rest l.fn.place l.text;
  reaches : Reaches l.at (length l.rest);
}

abbrev pub decreases-loop-b : goal.decreases-loop-b
decreases-loop-b l = length l.rest

use Rattle.std.proofs.Common.{◌≡◌, ◌+◌, length}
use Rattle.explain_core.specs.Tokens.{symbol_length}
use Rattle.explain_core.proofs.tokens.symbol_length.Given as goal

abbrev pub invariant-loop-b : goal.invariant-loop-b
invariant-loop-b l = record {
  rest_is : l.count + symbol_length l.rest ≡ symbol_length l.text;
  all : l.count + length l.rest ≡ length l.text;
}

abbrev pub decreases-loop-b : goal.decreases-loop-b
decreases-loop-b l = length l.rest

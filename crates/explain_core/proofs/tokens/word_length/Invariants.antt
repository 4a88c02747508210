use Rattle.std.proofs.Common.{◌≡◌, ◌+◌, length}
use Rattle.explain_core.specs.Tokens.{word_length}
use Rattle.explain_core.proofs.tokens.word_length.Given as goal

abbrev pub invariant-loop-b : goal.invariant-loop-b
invariant-loop-b l = record {
  rest_is : l.count + word_length l.rest ≡ word_length l.text;
  all : l.count + length l.rest ≡ length l.text;
}

abbrev pub decreases-loop-b : goal.decreases-loop-b
decreases-loop-b l = length l.rest

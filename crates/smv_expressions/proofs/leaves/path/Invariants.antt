use Rattle.std.proofs.Common.{◌≡◌, ◌<◌, length}
use Rattle.smv_grammar.specs.Reading.{first_path, path_on}
use Rattle.smv_expressions.proofs.leaves.path.Given as goal

abbrev pub invariant-loop-more : goal.invariant-loop-more
invariant-loop-more l = record {
  found : first_path l.tokens ≡ path_on l.path l.rest;
  shorter : length l.rest < length l.tokens;
}

abbrev pub decreases-loop-more : goal.decreases-loop-more
decreases-loop-more l = length l.rest

use Rattle.std.proofs.Common.{◌≡◌, length}
use Rattle.smv_meaning.specs.Values.{is_among}
use Rattle.smv_operators.specs.View.{seen_value}
use Rattle.smv_judge.proofs.fits.is_one_of.Given as goal

abbrev pub invariant-loop-first : goal.invariant-loop-first
invariant-loop-first l = is_among l.rest (seen_value l.value) ≡ is_among l.fn.members (seen_value l.value)

abbrev pub decreases-loop-first : goal.decreases-loop-first
decreases-loop-first l = length l.rest

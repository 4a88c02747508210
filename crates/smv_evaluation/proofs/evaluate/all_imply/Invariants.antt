use Rattle.std.proofs.Common.{◌≡◌, drop, map}
use Rattle.smv_text.specs.Tree.{links_of}
use Rattle.smv_text.specs.View.{plain_link}
use Rattle.smv_meaning.specs.Expressions.{are_implies}
use Rattle.smv_evaluation.proofs.evaluate.all_imply.Given as goal

abbrev pub invariant-loop-link : goal.invariant-loop-link
invariant-loop-link l = are_implies (links_of (map plain_link (drop l.link-index l.links))) ≡ are_implies (links_of (map plain_link l.links))

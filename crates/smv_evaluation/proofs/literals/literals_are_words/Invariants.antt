use Rattle.std.proofs.Common.{◌≡◌, drop, map}
use Rattle.smv_meaning.specs.Literals.{words_fit}
use Rattle.smv_meaning.specs.Checked.{all_trees}
use Rattle.smv_instances.specs.View.{instance_plain}
use Rattle.smv_evaluation.proofs.literals.literals_are_words.Given as goal

abbrev pub invariant-loop-instance : goal.invariant-loop-instance
invariant-loop-instance l = all_trees words_fit (map instance_plain (drop l.instance-index l.table)) ≡ all_trees words_fit (map instance_plain l.table)

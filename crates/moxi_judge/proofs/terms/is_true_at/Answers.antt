use Rattle.moxi_scripts.specs.Script.{PlainFormula, plain_formula}
use Rattle.moxi_flat.specs.FlatSorts.{IsFlatTruth}
use Rattle.moxi_judge.proofs.Elements.{seen_at}
use Rattle.moxi_judge.proofs.terms.is_true_at.Goals as goal

pub is_true-requires-clause-truth : goal.is_true-requires-clause-truth
is_true-requires-clause-truth c =
    seen_at (λ (x : PlainFormula). IsFlatTruth c.args.system.now x.term) plain_formula c.args.formulas.now c.args.number c.at.result.now c.at.result.now c.requires.truths c.requires.there c.at.ensures

use Rattle.std.proofs.Common.{◌≡◌, ℕ, IfOk, List, subst}
use Rattle.std.specs.List.{list_all}
use Rattle.moxi_terms.specs.Value.{at}
use Rattle.moxi_scripts.specs.Script.{PlainFormula, formula_at}
use Rattle.moxi_scripts.specs.Meeting.{is_true}
use Rattle.moxi_judge.specs.FlatTests.{free_script}
use Rattle.moxi_judge.proofs.queries.is_assumed.Goals as goal

pub returns : goal.returns
returns c =
    let Hold : List PlainFormula → List ℕ → Type 0 = λ fs is. IfOk c.all_true.result (λ hold. hold ≡ list_all (λ i. is_true (free_script c.args.system.now) (at c.args.now.now) (at c.args.now.now) (formula_at fs i)) is) in
    subst (Hold c.args.system.now.assumptions) c.as_slice.ensures (subst (λ fs. Hold fs c.as_slice.result.now) c.assumptions.ensures c.all_true.ensures)

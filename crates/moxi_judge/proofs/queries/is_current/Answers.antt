use Rattle.std.proofs.Common.{◌≡◌, ℕ, Bool, true, cond, IfOk, List, sym, ap, subst}
use Rattle.std.specs.List.{list_all}
use Rattle.moxi_terms.specs.Value.{at}
use Rattle.moxi_scripts.specs.Script.{PlainFormula, formula_at}
use Rattle.moxi_scripts.specs.Meeting.{currents_hold, is_true}
use Rattle.moxi_judge.specs.FlatTests.{free_script}
use Rattle.moxi_judge.proofs.Steps.{same_number}
use Rattle.moxi_judge.proofs.queries.is_current.Goals as goal

pub returns-then-step-eq0 : goal.returns-then-step-eq0
returns-then-step-eq0 c =
    let Hold : List PlainFormula → List ℕ → Type 0 = λ fs is. IfOk c.all_true.result (λ hold. hold ≡ list_all (λ i. is_true (free_script c.args.system.now) (at c.args.now.now) (at c.args.now.now) (formula_at fs i)) is) in
    let now : Bool = currents_hold (free_script c.args.system.now) c.args.query.now (at c.args.now.now) in
    subst (λ b. IfOk c.all_true.result (λ hold. hold ≡ b)) (sym (ap (λ b. cond b now true) (same_number c.args.step 0 c.if-step-eq0.true)))
    (subst (Hold c.args.system.now.currents) c.as_slice.ensures (subst (λ fs. Hold fs c.as_slice.result.now) c.currents.ensures c.all_true.ensures))

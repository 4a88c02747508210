use Rattle.std.proofs.Common.{◌++◌, ◌∙◌, ap, map, option_to_list}
use Rattle.moxi_terms.specs.View.{plain}
use Rattle.smv_script_terms.specs.Operands.{case_plain, chosen_cases}
use Rattle.smv_script_terms.proofs.TreeLists.{case_taken}
use Rattle.smv_script_terms.proofs.operands.chosen.Goals as goal

pub cases-preserved : goal.cases-preserved
cases-preserved c =
    case_taken c.cases.cases.items c.pop.new.self.items c.in-Some.case (plain c.cases.whole) (plain c.in_ok-whole.whole) (chosen_cases (map case_plain c.args.cases.items) (plain c.args.last))
    (c.pop.ensures.items ∙ ap (λ o. c.pop.new.self.items ++ option_to_list o) c.in-Some.is) c.in_ok-whole.ensures c.cases.invariant

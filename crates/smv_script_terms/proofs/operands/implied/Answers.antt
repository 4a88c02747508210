use Rattle.std.proofs.Common.{◌++◌, ◌∙◌, ap, map, option_to_list}
use Rattle.moxi_terms.specs.View.{plain}
use Rattle.smv_script_terms.specs.Operands.{operand_plain, implied_parts}
use Rattle.smv_script_terms.proofs.TreeLists.{operand_first, operand_taken}
use Rattle.smv_script_terms.proofs.operands.implied.Goals as goal

pub operands-init : goal.operands-init
operands-init c =
    operand_first (plain c.args.first) c.args.operands.items c.pop.new.self.items c.in-Some.last (c.pop.ensures.items ∙ ap (λ o. c.pop.new.self.items ++ option_to_list o) c.in-Some.is)

pub operands-preserved : goal.operands-preserved
operands-preserved c =
    operand_taken _ c.operands.operands.items c.pop-in-operands.new.self.items c.in-Some-pop.operand c.operands.words (plain c.operands.whole) (plain c.in_ok-whole.whole)
    (implied_parts (plain c.args.first) (map operand_plain c.args.operands.items))
    (c.pop-in-operands.ensures.items ∙ ap (λ o. c.pop-in-operands.new.self.items ++ option_to_list o) c.in-Some-pop.is) c.in_ok-whole.ensures c.operands.invariant

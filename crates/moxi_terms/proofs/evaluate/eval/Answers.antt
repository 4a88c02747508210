use Rattle.moxi_terms.specs.Value.{later_of}
use Rattle.moxi_terms.specs.View.{plain}
use Rattle.moxi_terms.specs.Evaluated.{values_in}
use Rattle.moxi_terms.proofs.Plain.{if_ok_same}
use Rattle.moxi_terms.proofs.Evaluating.{ready_can, ready_value}
use Rattle.moxi_terms.proofs.evaluate.eval.Goals as goal

pub value-requires : goal.value-requires
value-requires c =
    ready_can c.args.scope.now c.args.now.now c.args.later (plain c.args.term.now) c.functions-functions.result.now c.len.result (values_in c.later_valuation.result) c.new-bound.result.items
    c.functions-functions.ensures.scope c.requires c.functions-functions.ensures.functions c.len.ensures c.later_valuation.ensures c.new-bound.ensures.items

pub returns : goal.returns
returns c =
    if_ok_same c.value.result _ _
    (ready_value c.args.scope.now c.args.now.now (later_of c.args.now.now c.args.later) (plain c.args.term.now) c.functions-functions.result.now c.len.result (values_in c.later_valuation.result) c.new-bound.result.items
    c.functions-functions.ensures.functions c.len.ensures c.later_valuation.ensures c.new-bound.ensures.items)
    c.value.ensures.value

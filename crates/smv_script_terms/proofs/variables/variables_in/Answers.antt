use Rattle.std.proofs.Common.{refl}
use Rattle.smv_flat.specs.laws.FlatSteps.{drop_item}
use Rattle.smv_script_terms.specs.Groups.{group_plain}
use Rattle.smv_script_terms.proofs.Numbered.{group_variables, variable_elements}
use Rattle.smv_script_terms.proofs.Steps.{step_on}
use Rattle.smv_script_terms.proofs.variables.variables_in.Goals as goal

pub loop-item-preserved : goal.loop-item-preserved
loop-item-preserved c =
    step_on (group_variables c.args.width (group_plain c.args.group)) (variable_elements c.args.width (group_plain c.args.group)) c.loop-item.all _ _ c.args.items.now c.loop-item.item-index c.item-item.result _
    (drop_item c.args.items.now c.loop-item.item-index c.item-item.result c.loop-item-test.true c.item-item.is) c.in_ok-add_variable.ensures refl c.loop-item.invariant

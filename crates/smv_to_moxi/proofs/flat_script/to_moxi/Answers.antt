use Rattle.moxi_scripts.specs.ScriptView.{plain_script}
use Rattle.smv_flatten.specs.FlatModel.{flat_plain}
use Rattle.smv_script.specs.Script.{script_of}
use Rattle.smv_to_moxi.proofs.SpelledScripts.{model_spelled}
use Rattle.smv_to_moxi.proofs.Scripts.{made_is}
use Rattle.smv_to_moxi.proofs.Bounded.{made_bounded}
use Rattle.smv_to_moxi.proofs.flat_script.to_moxi.Goals as goal
use Rattle.moxi_script_print.proofs.Assembled.{spelled_by}

pub assembled-script-requires : goal.assembled-script-requires
assembled-script-requires c =
    spelled_by _ (script_of (flat_plain c.args.flat.now) c.args.flat.now.width) c.in_ok-logic.ensures (model_spelled c.scripts_are_spelled.ensures c.args.flat.now c.is_of_model.ensures)

pub returns-clause-script : goal.returns-clause-script
returns-clause-script c = made_is plain_script c.assembled-script.result _ (script_of (flat_plain c.args.flat.now) c.args.flat.now.width) c.in_ok-logic.ensures c.assembled-script.ensures

pub returns-clause-bounded : goal.returns-clause-bounded
returns-clause-bounded c =
    made_bounded c.sizes_are_weighed.ensures c.counts_are_weighed.ensures c.heights_are_low.ensures c.brackets_are_few.ensures c.args.flat.now c.is_of_model.ensures c.assembled-script.result
    (made_is plain_script c.assembled-script.result _ (script_of (flat_plain c.args.flat.now) c.args.flat.now.width) c.in_ok-logic.ensures c.assembled-script.ensures)

use Rattle.moxi_scripts.specs.Script.{plain_check, plain_system}
use Rattle.moxi_scripts.specs.ScriptView.{plain_script}
use Rattle.btor_import.specs.Assembling.{script_with}
use Rattle.btor_import.specs.Script.{import_of}
use Rattle.btor_import.proofs.Scripts.{made_is, script_is}
use Rattle.btor_import.proofs.script.import_btor.Goals as goal
use Rattle.moxi_script_print.proofs.Assembled.{spelled_by}

pub assembled-requires : goal.assembled-requires
assembled-requires c =
    spelled_by _ (import_of c.args.nodes.now) (script_is c.args.nodes.now c.in_ok-logic.logic (plain_system c.in_ok-system.system) (plain_check c.in_ok-check.check) c.in_ok-logic.ensures c.in_ok-system.ensures c.in_ok-check.ensures)
    ∣ c.scripts_are_spelled.ensures c.args.nodes.now c.in_ok-numbers.ensures.well_formed ∣₁

pub returns : goal.returns
returns c =
    made_is plain_script c.assembled.result (script_with c.in_ok-logic.logic (plain_system c.in_ok-system.system) (plain_check c.in_ok-check.check)) (import_of c.args.nodes.now)
    (script_is c.args.nodes.now c.in_ok-logic.logic (plain_system c.in_ok-system.system) (plain_check c.in_ok-check.check) c.in_ok-logic.ensures c.in_ok-system.ensures c.in_ok-check.ensures) c.assembled.ensures

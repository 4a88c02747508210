use Rattle.moxi_scripts.specs.Script.{plain_system}
use Rattle.smv_flat.specs.FlatParts.{parts_plain}
use Rattle.smv_to_moxi.specs.Assembling.{check_form, script_under, script_with, system_form}
use Rattle.smv_to_moxi.specs.SingleView.{plain_single}
use Rattle.smv_to_moxi.proofs.Scripts.{made_is, with_system}
use Rattle.smv_to_moxi.proofs.script.single_of_scope.Goals as goal

pub system_of-requires : goal.system_of-requires
system_of-requires c = c.requires

pub single_of_system-requires : goal.single_of_system-requires
single_of_system-requires c = record { coding = c.requires; system = c.in-Ok.ensures }

pub returns-in-Ok : goal.returns-in-Ok
returns-in-Ok c =
    made_is plain_single c.single_of_system.result (script_with c.args.logic c.args.scope.now (plain_system c.in-Ok.system) (check_form (parts_plain c.args.flat.now.parts) c.args.coding.now.width))
    (script_under c.args.logic c.args.scope.now (parts_plain c.args.flat.now.parts) c.args.coding.now.width)
    (with_system c.args.logic c.args.scope.now (plain_system c.in-Ok.system) (system_form (parts_plain c.args.flat.now.parts) c.args.coding.now.width) (check_form (parts_plain c.args.flat.now.parts) c.args.coding.now.width) c.in-Ok.ensures)
    c.single_of_system.ensures

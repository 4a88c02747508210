use Rattle.std.proofs.Common.{◌∙◌}
use Rattle.moxi_scripts.specs.Script.{plain_check, plain_system}
use Rattle.smv_flat.specs.FlatParts.{parts_plain}
use Rattle.smv_to_moxi.specs.Assembling.{check_form}
use Rattle.smv_to_moxi.proofs.Scripts.{with_check}
use Rattle.smv_to_moxi.proofs.script.single_of_system.Goals as goal

pub check_of-requires : goal.check_of-requires
check_of-requires c = record { coding = c.requires.coding; system = c.requires.system }

pub returns-in-Ok : goal.returns-in-Ok
returns-in-Ok c =
    c.single_with.ensures
    ∙ with_check c.args.logic c.args.scope.now (plain_system c.args.system) (plain_check c.in-Ok.check) (check_form (parts_plain c.args.flat.now.parts) c.args.coding.now.width) c.in-Ok.ensures

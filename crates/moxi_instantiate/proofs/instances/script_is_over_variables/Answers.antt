use Rattle.moxi_scripts.specs.ScriptView.{plain_script}
use Rattle.moxi_instantiate.proofs.Whole.{checked_long, has_room, systems_over}
use Rattle.moxi_flat.proofs.Alike.{systems_are_over_variables_law}
use Rattle.moxi_flat.proofs.Enough.{locals_are_counted_law}
use Rattle.moxi_flat.proofs.Small.{flat_systems_are_small_law}
use Rattle.moxi_instantiate.proofs.instances.script_is_over_variables.Goals as goal

pub returns-clause-over : goal.returns-clause-over
returns-clause-over c = systems_over systems_are_over_variables_law (plain_script c.args.script.now) c.script_is_valid.ensures

pub returns-clause-long : goal.returns-clause-long
returns-clause-long c = checked_long (plain_script c.args.script.now) c.script_is_valid.ensures

pub returns-clause-room : goal.returns-clause-room
returns-clause-room c = has_room locals_are_counted_law flat_systems_are_small_law (plain_script c.args.script.now) c.requires.small c.script_is_valid.ensures

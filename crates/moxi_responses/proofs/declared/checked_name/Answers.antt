use Rattle.moxi_responses.proofs.Named.{checked_there, system_name}
use Rattle.moxi_responses.proofs.declared.checked_name.Goals as goal

pub at-requires : goal.at-requires
at-requires c = checked_there c.args.script.now c.spelled_scripts_are_valid.ensures

pub returns : goal.returns
returns c =
    let script = c.args.script.now in
    system_name script.systems script.check.system c.at.result.now (checked_there script c.spelled_scripts_are_valid.ensures) c.at.ensures

use Rattle.smv_script_laws.proofs.Environments.{environments_are_rows_law}
use Rattle.smv_script_laws.proofs.environment_laws.environments_are_rows.Goals as goal

pub returns : goal.returns
returns c = environments_are_rows_law

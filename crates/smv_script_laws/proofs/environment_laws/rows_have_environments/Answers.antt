use Rattle.smv_script_laws.proofs.Environments.{rows_have_environments_law}
use Rattle.smv_script_laws.proofs.environment_laws.rows_have_environments.Goals as goal

pub returns : goal.returns
returns c = rows_have_environments_law

use Rattle.smv_laws.proofs.VerdictLaws.{yes_is_run_law}
use Rattle.smv_laws.proofs.verdicts.yes_is_run.Goals as goal

pub returns : goal.returns
returns c = yes_is_run_law

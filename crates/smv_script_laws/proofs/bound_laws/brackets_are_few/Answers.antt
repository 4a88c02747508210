use Rattle.smv_script_laws.proofs.Printed.{brackets_are_few}
use Rattle.smv_script_laws.proofs.bound_laws.brackets_are_few.Goals as goal

pub returns : goal.returns
returns c = brackets_are_few

use Rattle.btor_import.proofs.Whole.{whole_script}
use Rattle.btor_import.proofs.laws.scripts_are_valid.Goals as goal

pub returns : goal.returns
returns c = whole_script

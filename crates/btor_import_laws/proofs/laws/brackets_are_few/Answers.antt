use Rattle.btor_import_laws.proofs.OpenBrackets.{brackets_are_few_law}
use Rattle.btor_import_laws.proofs.laws.brackets_are_few.Goals as goal

pub returns : goal.returns
returns c = brackets_are_few_law

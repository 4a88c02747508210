use Rattle.generate.proofs.OneAnswer as one
use Rattle.generate.proofs.laws.one_generated.Goals as goal

pub returns : goal.returns
returns c = one.one_generated c.model_lines_are_laid_out.ensures

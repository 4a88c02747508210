use Rattle.moxi_layout.proofs.Whole.{lines_stay_few_law}
use Rattle.moxi_layout.proofs.count_laws.lines_stay_few.Goals as goal

pub returns : goal.returns
returns c = lines_stay_few_law

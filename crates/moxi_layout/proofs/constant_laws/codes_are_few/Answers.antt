use Rattle.moxi_layout.proofs.Counts.{codes_are_few_law}
use Rattle.moxi_layout.proofs.constant_laws.codes_are_few.Goals as goal

pub returns : goal.returns
returns c = codes_are_few_law

use Rattle.moxi_layout.proofs.Whole.{lines_are_counted_law}
use Rattle.moxi_layout.proofs.count_laws.lines_are_counted.Goals as goal

pub returns : goal.returns
returns c = lines_are_counted_law

use Rattle.moxi_layout.proofs.Whole.{no_duplicate_lines_law}
use Rattle.moxi_layout.proofs.count_laws.no_duplicate_lines.Goals as goal

pub returns : goal.returns
returns c = no_duplicate_lines_law

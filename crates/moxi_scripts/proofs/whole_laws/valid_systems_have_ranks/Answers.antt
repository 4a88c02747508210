use Rattle.moxi_scripts.proofs.WholeRanks.{valid_has_ranks}
use Rattle.moxi_scripts.proofs.whole_laws.valid_systems_have_ranks.Goals as goal

pub returns : goal.returns
returns c = valid_has_ranks

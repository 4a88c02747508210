use Rattle.moxi_layout.proofs.Whole.{flat_sizes_are_script_sizes_law}
use Rattle.moxi_layout.proofs.count_laws.flat_sizes_are_script_sizes.Goals as goal

pub returns : goal.returns
returns c = flat_sizes_are_script_sizes_law

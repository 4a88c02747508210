use Rattle.moxi_flat.proofs.Sizes.{flat_systems_have_sizes_law}
use Rattle.moxi_flat.proofs.flat_laws.flat_systems_have_sizes.Goals as goal

pub returns : goal.returns
returns c = flat_systems_have_sizes_law

use Rattle.moxi_flat.proofs.Single.{single_systems_are_flat_law}
use Rattle.moxi_flat.proofs.flat_laws.single_systems_are_flat.Goals as goal

pub returns : goal.returns
returns c = single_systems_are_flat_law

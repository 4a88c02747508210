use Rattle.moxi_flat.proofs.SortedSystem.{flat_systems_are_sorted_law}
use Rattle.moxi_flat.proofs.flat_laws.flat_systems_are_sorted.Goals as goal

pub returns : goal.returns
returns c = flat_systems_are_sorted_law

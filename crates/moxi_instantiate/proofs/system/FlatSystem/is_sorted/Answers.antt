use Rattle.moxi_instantiate.proofs.Accepted.{sorted_held}
use Rattle.moxi_flat.proofs.SortedSystem.{flat_systems_are_sorted_law}
use Rattle.moxi_instantiate.proofs.system.FlatSystem.is_sorted.Goals as goal

pub returns : goal.returns
returns c = sorted_held c.args.self.now c.is_instance.ensures flat_systems_are_sorted_law

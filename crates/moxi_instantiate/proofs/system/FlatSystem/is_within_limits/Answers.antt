use Rattle.moxi_instantiate.proofs.Accepted.{count_held, height_held, names_held, size_held}
use Rattle.moxi_flat.proofs.Sizes.{flat_systems_have_sizes_law}
use Rattle.moxi_flat.proofs.Small.{flat_systems_are_small_law}
use Rattle.moxi_instantiate.proofs.system.FlatSystem.is_within_limits.Goals as goal

pub returns-clause-size : goal.returns-clause-size
returns-clause-size c = size_held c.args.self.now c.is_instance.ensures flat_systems_have_sizes_law

pub returns-clause-height : goal.returns-clause-height
returns-clause-height c = height_held c.args.self.now c.is_instance.ensures flat_systems_have_sizes_law

pub returns-clause-count : goal.returns-clause-count
returns-clause-count c = count_held c.args.self.now c.is_instance.ensures flat_systems_are_small_law

pub returns-clause-names : goal.returns-clause-names
returns-clause-names c = names_held c.args.self.now c.is_instance.ensures

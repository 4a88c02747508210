use Rattle.moxi_scripts.specs.Script.{plain_system}
use Rattle.moxi_instantiate.proofs.Single.{single_flat, single_instance}
use Rattle.moxi_flat.proofs.Single.{single_systems_are_flat_law}
use Rattle.moxi_instantiate.proofs.system.flat_of_single.Goals as goal

pub invariant_of-result : goal.invariant_of-result
invariant_of-result c =
    single_instance single_systems_are_flat_law c.args.scope.now (plain_system c.args.system) c.args.check.now c.in_ok-variables.variables c.in_ok-parts.parts
    c.in_ok-variables.ensures c.in_ok-parts.ensures c.requires

pub returns : goal.returns
returns c =
    single_flat single_systems_are_flat_law c.args.scope.now (plain_system c.args.system) c.args.check.now c.in_ok-variables.variables c.in_ok-parts.parts
    c.in_ok-variables.ensures c.in_ok-parts.ensures c.requires

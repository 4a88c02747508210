use Rattle.std.proofs.Common.{◌≡◌, ◌++◌, ◌+◌, ◌*◌, drop, length, map}
use Rattle.moxi_scripts.specs.Script.{plain_system, system_at}
use Rattle.moxi_flat.specs.Systems.{nesting_upto}
use Rattle.moxi_flat.specs.FlatSystem.{locals_each, locals_upto}
use Rattle.moxi_instantiate.proofs.variables.+locals.Given as goal

abbrev pub decreases-add_locals : goal.decreases-add_locals
decreases-add_locals l = 2 * nesting_upto (map plain_system l.systems.now) (length (map plain_system l.systems.now)) l.i

abbrev pub decreases-add_subsystem : goal.decreases-add_subsystem
decreases-add_subsystem l = 2 * nesting_upto (map plain_system l.systems.now) (length (map plain_system l.systems.now)) l.subsystem.now.system + 1

abbrev pub invariant-add_locals-loop-subsystem : goal.invariant-add_locals-loop-subsystem
invariant-add_locals-loop-subsystem l =
    let ss = map plain_system l.systems in
    l.all ++ locals_each ss (locals_upto ss (length ss)) l.path (drop l.subsystem-index (system_at ss l.i).subsystems) ≡ l.fn.all ++ locals_each ss (locals_upto ss (length ss)) l.path (system_at ss l.i).subsystems

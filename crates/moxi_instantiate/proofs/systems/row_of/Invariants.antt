use Rattle.std.proofs.Common.{◌≡◌, ◌++◌, map}
use Rattle.std.specs.Slice.Iter.{iter_rest}
use Rattle.moxi_scripts.specs.declared.script.Subsystem.{Subsystem}
use Rattle.moxi_instantiate.proofs.systems.row_of.Given as goal

abbrev pub invariant-loop-subsystem : goal.invariant-loop-subsystem
invariant-loop-subsystem l = l.row ++ map (λ (b : Subsystem). b.system) (iter_rest l.subsystem-iterator) ≡ map (λ (b : Subsystem). b.system) l.system.subsystems

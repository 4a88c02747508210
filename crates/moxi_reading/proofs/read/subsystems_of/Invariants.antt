use Rattle.std.proofs.Common.{◌≡◌, ◌++◌, map}
use Rattle.std.specs.Slice.Iter.{iter_rest}
use Rattle.moxi_scripts.specs.Spelling.{subsystem_of}
use Rattle.moxi_reading.proofs.read.subsystems_of.Given as goal

abbrev pub invariant-loop-u : goal.invariant-loop-u
invariant-loop-u l = l.subsystems ++ map (subsystem_of l.names) (iter_rest l.u-iterator) ≡ map (subsystem_of l.names) l.uses

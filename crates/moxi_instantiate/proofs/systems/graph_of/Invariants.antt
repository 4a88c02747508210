use Rattle.std.proofs.Common.{◌≡◌, ◌++◌, map}
use Rattle.std.specs.Slice.Iter.{iter_rest}
use Rattle.moxi_scripts.specs.Script.{plain_system}
use Rattle.moxi_instantiate.specs.Amounts.{links_of}
use Rattle.moxi_instantiate.proofs.systems.graph_of.Given as goal

abbrev pub invariant-loop-system : goal.invariant-loop-system
invariant-loop-system l = l.graph ++ links_of (map plain_system (iter_rest l.system-iterator)) ≡ links_of (map plain_system l.systems)

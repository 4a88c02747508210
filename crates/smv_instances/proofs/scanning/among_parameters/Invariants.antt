use Rattle.std.proofs.Common.{◌≡◌, map}
use Rattle.std.specs.Slice.Iter.{iter_rest}
use Rattle.std.specs.Iterator.Adapters.{zip_first, zip_second}
use Rattle.smv_text.specs.Tree.{trees_of}
use Rattle.smv_text.specs.View.{plain}
use Rattle.smv_meaning.specs.Names.{Local, among_parameters}
use Rattle.smv_instances.proofs.scanning.among_parameters.Given as goal

abbrev pub invariant-loop-parameter : goal.invariant-loop-parameter
invariant-loop-parameter l = (other : Local) → among_parameters l.parent (iter_rest (zip_first l.parameter-iterator)) (trees_of (map plain (iter_rest (zip_second l.parameter-iterator)))) l.x other ≡ among_parameters l.parent l.parameters (trees_of (map plain l.actuals)) l.x other

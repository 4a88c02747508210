use Rattle.std.proofs.Common.{◌≡◌, map}
use Rattle.std.specs.Slice.Iter.{iter_rest}
use Rattle.smv_text.specs.View.{plain_definition}
use Rattle.smv_meaning.specs.Names.{Local, among_definitions}
use Rattle.smv_instances.proofs.scanning.among_definitions.Given as goal

abbrev pub invariant-loop-definition : goal.invariant-loop-definition
invariant-loop-definition l = (other : Local) → among_definitions l.i (map plain_definition (iter_rest l.definition-iterator)) l.x other ≡ among_definitions l.i (map plain_definition l.definitions) l.x other

use Rattle.std.proofs.Common.{◌≡◌, map}
use Rattle.std.specs.Slice.Iter.{iter_rest}
use Rattle.smv_text.specs.View.{plain_element}
use Rattle.smv_meaning.specs.Names.{among_elements}
use Rattle.smv_instances.proofs.scanning.among_elements.Given as goal

abbrev pub invariant-loop-element : goal.invariant-loop-element
invariant-loop-element l = among_elements l.i (map plain_element (iter_rest l.element-iterator)) l.x ≡ among_elements l.i (map plain_element l.elements) l.x

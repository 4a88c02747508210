use Rattle.std.proofs.Common.{◌≡◌, ◌++◌, map}
use Rattle.std.specs.Prelude.{flat_map}
use Rattle.std.specs.Slice.Iter.{iter_rest}
use Rattle.smv_text.specs.View.{plain_element}
use Rattle.smv_meaning.specs.Phases.{element_paths}
use Rattle.smv_references.specs.View.{path_seen}
use Rattle.smv_names.proofs.paths.put_elements_paths.Given as goal

abbrev pub invariant-loop-element : goal.invariant-loop-element
invariant-loop-element l =
    map path_seen l.paths.items ++ flat_map element_paths (map plain_element (iter_rest l.element-iterator)) ≡ map path_seen l.fn.paths.items ++ flat_map element_paths (map plain_element l.elements)

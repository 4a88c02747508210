use Rattle.std.proofs.Common.{◌≡◌, ◌||◌, ℕ, List, map, is_some}
use Rattle.std.specs.List.{list_any}
use Rattle.std.specs.Slice.Iter.{iter_rest}
use Rattle.smv_text.specs.View.{plain_element}
use Rattle.smv_meaning.specs.Names.{element_has}
use Rattle.name_maps.specs.Maps.{named}
use Rattle.smv_instances.proofs.symbols.put_elements.Given as goal

abbrev pub invariant-loop-element : goal.invariant-loop-element
invariant-loop-element l = (x : List ℕ) → (is_some (named l.symbols x) || list_any (element_has x) (map plain_element (iter_rest l.element-iterator))) ≡ (is_some (named l.fn.symbols x) || list_any (element_has x) (map plain_element l.elements))

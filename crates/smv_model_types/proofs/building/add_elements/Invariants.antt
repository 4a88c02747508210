use Rattle.std.proofs.Common.{map, true}
use Rattle.std.specs.Slice.Iter.{iter_rest}
use Rattle.smv_text.specs.View.{plain_element}
use Rattle.smv_meaning.specs.Phases.{element_typing}
use Rattle.smv_meaning.specs.Settled.{types_in}
use Rattle.smv_instances.specs.View.{instance_plain}
use Rattle.smv_items.specs.FlatItems.{element_items}
use Rattle.smv_model_types.specs.Building.{element_pieces, paths_here}
use Rattle.smv_model_types.proofs.Walks.{Walks}
use Rattle.smv_model_types.proofs.building.add_elements.Given as goal

abbrev pub invariant-loop-element : goal.invariant-loop-element
invariant-loop-element l =
    let t = map instance_plain l.context.model.now.table.now in
    Walks t (element_typing (types_in true t l.i)) (element_items l.i) (element_pieces t l.i) (paths_here t l.i) (map plain_element l.elements) l.initial.built (map plain_element (iter_rest l.element-iterator)) l.built

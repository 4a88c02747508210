use Rattle.std.proofs.Common.{[], map, true}
use Rattle.std.specs.Slice.Iter.{iter_rest}
use Rattle.smv_meaning.specs.Settled.{types_in}
use Rattle.smv_instances.specs.View.{instance_plain}
use Rattle.smv_model_types.proofs.Walks.{Walks, adds_none}
use Rattle.std.specs.Prelude.{◌∷◌}
use Rattle.smv_text.specs.View.{plain_definition}
use Rattle.smv_items.specs.FlatItems.{definition_item}
use Rattle.smv_model_types.specs.Building.{expression_paths}
use Rattle.smv_model_types.specs.Outcome.{definition_typing}
use Rattle.smv_model_types.proofs.building.add_definitions.Given as goal

abbrev pub invariant-loop-definition : goal.invariant-loop-definition
invariant-loop-definition l =
    let t = map instance_plain l.context.model.now.table.now in
    Walks t (definition_typing (types_in true t l.i)) (λ d. definition_item l.i d ∷ []) adds_none (λ d. expression_paths t l.i d.body) (map plain_definition l.definitions) l.initial.built (map plain_definition (iter_rest l.definition-iterator)) l.built

use Rattle.std.proofs.Common.{drop, map, true}
use Rattle.smv_text.specs.View.{plain}
use Rattle.smv_meaning.specs.Phases.{actual_typing}
use Rattle.smv_meaning.specs.Settled.{types_in}
use Rattle.smv_instances.specs.View.{instance_plain}
use Rattle.smv_model_types.specs.Building.{own_items, expression_paths}
use Rattle.smv_model_types.proofs.Walks.{Walks, adds_none}
use Rattle.smv_model_types.proofs.building.add_own.Given as goal

abbrev pub invariant-loop-actual : goal.invariant-loop-actual
invariant-loop-actual l =
    let t = map instance_plain l.context.model.now.table.now in
    Walks t (actual_typing (types_in true t l.parent)) (own_items l.i l.parent) adds_none (expression_paths t l.parent) (map plain l.actuals) l.initial.built (map plain (drop l.actual-index l.actuals)) l.built

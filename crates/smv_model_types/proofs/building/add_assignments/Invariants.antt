use Rattle.std.proofs.Common.{[], map, true}
use Rattle.std.specs.Slice.Iter.{iter_rest}
use Rattle.smv_meaning.specs.Settled.{types_in}
use Rattle.smv_instances.specs.View.{instance_plain}
use Rattle.smv_model_types.specs.Building.{assignment_piece, assignment_paths}
use Rattle.smv_model_types.proofs.Walks.{Walks, adds_none}
use Rattle.std.specs.Prelude.{◌∷◌}
use Rattle.smv_text.specs.View.{plain_assignment}
use Rattle.smv_meaning.specs.Phases.{assigned_typing}
use Rattle.smv_model_types.proofs.building.add_assignments.Given as goal

abbrev pub invariant-loop-assignment : goal.invariant-loop-assignment
invariant-loop-assignment l =
    let t = map instance_plain l.context.model.now.table.now in
    Walks t (assigned_typing (types_in true t l.i)) adds_none (λ a. assignment_piece t l.i a ∷ []) (assignment_paths t l.i) (map plain_assignment l.assignments) l.initial.built (map plain_assignment (iter_rest l.assignment-iterator)) l.built

use Rattle.std.proofs.Common.{rules, ◌≡◌, true, List, [], ◌∷◌, map, flat_map, subst}
use Rattle.std.specs.Slice.Iter.{iter_rest}
use Rattle.smv_meaning.specs.Settled.{types_in}
use Rattle.smv_instances.specs.View.{instance_plain}
use Rattle.smv_items.specs.FlatItems.{Origin}
use Rattle.smv_model_types.specs.Building.{assignment_piece, assignment_paths, Adds}
use Rattle.smv_model_types.proofs.Walks.{Walks, walks_over, adds_none, none_all, singles, walks_start, walks_here, walks_step, walks_stop, walks_checks, walks_end, walks_finds}
use Rattle.smv_text.specs.Tree.{PlainAssignment}
use Rattle.smv_text.specs.View.{plain_assignment}
use Rattle.smv_meaning.specs.Phases.{assigned_typing}
use Rattle.smv_model_types.proofs.building.add_assignments.Goals as goal

pub loop-assignment-init : goal.loop-assignment-init
loop-assignment-init c =
    let t = map instance_plain c.args.context.now.model.now.table.now in
    let f = assigned_typing (types_in true t c.args.i) in
    let m = λ (a : PlainAssignment). adds_none {Y = Origin} a in
    let g = λ (a : PlainAssignment). assignment_piece t c.args.i a ∷ [] in
    let k = assignment_paths t c.args.i in
    let all = map plain_assignment c.args.assignments.now in
    let e : c.args.assignments.now ≡ iter_rest c.into_iter-assignment-iterator.result = search (rules, c.into_iter-assignment-iterator.ensures) in
    subst (λ xs. Walks t f m g k all c.args.built.now (map plain_assignment xs) c.args.built.now) e (walks_start t f m g k all c.args.built.now)

pub loop-assignment-preserved : goal.loop-assignment-preserved
loop-assignment-preserved c =
    let t = map instance_plain c.args.context.now.model.now.table.now in
    let f = assigned_typing (types_in true t c.args.i) in
    let m = λ (a : PlainAssignment). adds_none {Y = Origin} a in
    let g = λ (a : PlainAssignment). assignment_piece t c.args.i a ∷ [] in
    let k = assignment_paths t c.args.i in
    let all = map plain_assignment c.args.assignments.now in
    let rest = iter_rest c.next.new.self in
    walks_step t f m g k all c.args.built.now (plain_assignment c.in-Some.assignment.now) (map plain_assignment rest) c.loop-assignment.built c.add_assignment.new.built (walks_here t f m g k all c.args.built.now plain_assignment (iter_rest c.loop-assignment.assignment-iterator) c.in-Some.assignment.now rest c.loop-assignment.built c.in-Some.ensures.steps c.loop-assignment.invariant)
    c.in_ok-add_assignment.ensures.checks c.in_ok-add_assignment.ensures.adds c.in_ok-add_assignment.ensures.found

pub returns-in_err-add_assignment-clause-checks : goal.returns-in_err-add_assignment-clause-checks
returns-in_err-add_assignment-clause-checks c =
    let t = map instance_plain c.args.context.now.model.now.table.now in
    let f = assigned_typing (types_in true t c.args.i) in
    let m = λ (a : PlainAssignment). adds_none {Y = Origin} a in
    let g = λ (a : PlainAssignment). assignment_piece t c.args.i a ∷ [] in
    let k = assignment_paths t c.args.i in
    let all = map plain_assignment c.args.assignments.now in
    let rest = iter_rest c.next.new.self in
    let stop = walks_stop t f m g k all c.args.built.now (plain_assignment c.in-Some.assignment.now) (map plain_assignment rest) c.loop-assignment.built c.in_err-add_assignment.field-0.0 (walks_here t f m g k all c.args.built.now plain_assignment (iter_rest c.loop-assignment.assignment-iterator) c.in-Some.assignment.now rest c.loop-assignment.built c.in-Some.ensures.steps c.loop-assignment.invariant)
    c.in_err-add_assignment.ensures.checks in
    search (rules, c.from_residual.ensures, stop)

pub returns-clause-checks : goal.returns-clause-checks
returns-clause-checks c =
    let t = map instance_plain c.args.context.now.model.now.table.now in
    let f = assigned_typing (types_in true t c.args.i) in
    let m = λ (a : PlainAssignment). adds_none {Y = Origin} a in
    let g = λ (a : PlainAssignment). assignment_piece t c.args.i a ∷ [] in
    let k = assignment_paths t c.args.i in
    let all = map plain_assignment c.args.assignments.now in
    walks_checks t f m g k all c.args.built.now c.loop-assignment.built
    (walks_over t f m g k all c.args.built.now plain_assignment (iter_rest c.loop-assignment.assignment-iterator) c.loop-assignment.built c.in-None.ensures.steps.0 c.loop-assignment.invariant)

pub returns-clause-adds : goal.returns-clause-adds
returns-clause-adds c =
    let t = map instance_plain c.args.context.now.model.now.table.now in
    let f = assigned_typing (types_in true t c.args.i) in
    let m = λ (a : PlainAssignment). adds_none {Y = Origin} a in
    let g = λ (a : PlainAssignment). assignment_piece t c.args.i a ∷ [] in
    let k = assignment_paths t c.args.i in
    let all = map plain_assignment c.args.assignments.now in
    let old = c.args.built.now in
    let now = c.loop-assignment.built in
    let end = walks_end t f m g k all old now (walks_over t f m g k all old plain_assignment (iter_rest c.loop-assignment.assignment-iterator) now c.in-None.ensures.steps.0 c.loop-assignment.invariant) in
    subst (λ (ms : List Origin). Adds t ms (map (assignment_piece t c.args.i) all) old now) (none_all all) (subst (λ fs. Adds t (flat_map m all) fs old now) (singles (assignment_piece t c.args.i) all) end)

pub returns-clause-found : goal.returns-clause-found
returns-clause-found c =
    let t = map instance_plain c.args.context.now.model.now.table.now in
    let f = assigned_typing (types_in true t c.args.i) in
    let m = λ (a : PlainAssignment). adds_none {Y = Origin} a in
    let g = λ (a : PlainAssignment). assignment_piece t c.args.i a ∷ [] in
    let k = assignment_paths t c.args.i in
    let all = map plain_assignment c.args.assignments.now in
    let old = c.args.built.now in
    let now = c.loop-assignment.built in
    walks_finds t f m g k all old now (walks_over t f m g k all old plain_assignment (iter_rest c.loop-assignment.assignment-iterator) now c.in-None.ensures.steps.0 c.loop-assignment.invariant)

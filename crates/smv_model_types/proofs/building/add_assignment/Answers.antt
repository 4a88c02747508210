use Rattle.std.proofs.Math.Bool.{and_assoc}
use Rattle.std.proofs.Common.{rules, ◌≡◌, ◌&&◌, true, false, Option, Some, Ok, [], ◌∷◌, map, option_map, ap, sym, subst, ◌∙◌}
use Rattle.smv_text.specs.View.{plain, plain_assignment}
use Rattle.smv_meaning.specs.Types.{ExprType, type_same}
use Rattle.smv_meaning.specs.Checks.{check, typing, first_failing, on_types, IsBad, Named, Position}
use Rattle.smv_meaning.specs.Phases.{place_of, in_assignment}
use Rattle.smv_meaning.specs.Settled.{types_in}
use Rattle.smv_meaning.specs.laws.Composing.{ends}
use Rattle.smv_instances.specs.View.{instance_plain}
use Rattle.smv_intervals.specs.View.{seen}
use Rattle.smv_types.specs.Outcome.{outcome}
use Rattle.smv_model_types.specs.Entries.{entries_seen, found_named}
use Rattle.smv_types.specs.View.{position_seen}
use Rattle.smv_meaning.specs.Phases.{is_something}
use Rattle.smv_meaning.specs.laws.Booleans.{both_true}
use Rattle.smv_model_types.specs.Building.{assignment_paths, expression_paths}
use Rattle.smv_model_types.proofs.BuildingLaws.{fit_fails, fit_passes, passed}
use Rattle.smv_model_types.proofs.Finding.{finds_where, target_found}
use Rattle.smv_model_types.proofs.TypedPaths.{stored_found}
use Rattle.smv_model_types.proofs.building.add_assignment.Goals as goal

pub returns-in_err-value-clause-checks : goal.returns-in_err-value-clause-checks
returns-in_err-value-clause-checks c =
    let names = types_in true (map instance_plain c.args.context.now.model.now.table.now) c.args.i in
    let body = plain c.args.assignment.now.body in
    let a = typing names (in_assignment c.args.assignment.now.when) body in
    let bad = subst (λ (at : Position). IsBad c.in_err-value.field-0.0 (first_failing (typing names at body).checks)) c.position_of-position.ensures c.in_err-value.ensures in
    let stop = ends c.in_err-value.field-0.0 a.checks (check 16 (place_of body) (on_types (names c.args.assignment.now.target).type a.type type_same) ∷ []) bad in
    search (rules, c.from_residual-in_err-value.ensures, stop)

pub returns-then-not-are_same-clause-checks : goal.returns-then-not-are_same-clause-checks
returns-then-not-are_same-clause-checks c =
    let names = types_in true (map instance_plain c.args.context.now.model.now.table.now) c.args.i in
    let body = plain c.args.assignment.now.body in
    let a = typing names (in_assignment c.args.assignment.now.when) body in
    let target = (names c.args.assignment.now.target).type in
    let entries = entries_seen c.args.context.now.model.now.numbers.now.bodies c.args.context.now.entries.now.items in
    let o = option_map seen c.in_ok-value.value.ty in
    let told = subst (λ (at : Position). outcome (typing names at body) ≡ Ok o) c.position_of-position.ensures c.in_ok-value.ensures.0 in
    fit_fails a (place_of body) o (λ (t : Option ExprType). on_types target t type_same) told
    (ap (λ t. on_types t o type_same) (sym (ap (λ (n : Named). n.type) (c.in_ok-target.ensures.named ∙ ap (found_named entries) c.target-found.ensures.found ∙ c.args.context.now.right c.args.i c.args.assignment.now.target))) ∙ sym c.if-not-are_same.ensures)
    ∙ ap (λ p. Some (check 16 p false).refusal) (sym c.place.ensures)

pub returns-clause-checks : goal.returns-clause-checks
returns-clause-checks c =
    let names = types_in true (map instance_plain c.args.context.now.model.now.table.now) c.args.i in
    let body = plain c.args.assignment.now.body in
    let a = typing names (in_assignment c.args.assignment.now.when) body in
    let target = (names c.args.assignment.now.target).type in
    let entries = entries_seen c.args.context.now.model.now.numbers.now.bodies c.args.context.now.entries.now.items in
    let o = option_map seen c.in_ok-value.value.ty in
    let told = subst (λ (at : Position). outcome (typing names at body) ≡ Ok o) c.position_of-position.ensures c.in_ok-value.ensures.0 in
    fit_passes a (place_of body) o (λ (t : Option ExprType). on_types target t type_same) told
    (ap (λ t. on_types t o type_same) (sym (ap (λ (n : Named). n.type) (c.in_ok-target.ensures.named ∙ ap (found_named entries) c.target-found.ensures.found ∙ c.args.context.now.right c.args.i c.args.assignment.now.target))) ∙ sym c.are_same.ensures ∙ c.if-not-are_same.false)

pub returns-clause-found : goal.returns-clause-found
returns-clause-found c =
    let t = map instance_plain c.args.context.now.model.now.table.now in
    let i = c.args.i in
    let a = plain_assignment c.args.assignment.now in
    let at = position_seen c.position_of-position.result in
    let type = (passed (typing (types_in true t i) at a.body) (option_map seen c.in_ok-value.value.ty) c.in_ok-value.ensures.0).1 in
    finds_where (assignment_paths t i a) (c.is_something.result && c.is_some.result) c.args.built.now.all_found _ (and_assoc c.args.built.now.all_found c.is_something.result c.is_some.result)
    (λ h.
    let b = both_true c.is_something.result c.is_some.result h in
    target_found t i a.target (expression_paths t i a.body) (sym (ap is_something c.target-found.ensures.found) ∙ sym (c.is_something.ensures t) ∙ b.0)
    (stored_found t i at a.body c.in_ok-value.value.ty type (sym c.is_some.ensures ∙ b.1)))

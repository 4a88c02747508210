use Rattle.std.proofs.Common.{rules, refl, true, false, Option, Some, [], ◌∷◌, map, option_map, ap, sym, ◌∙◌}
use Rattle.smv_text.specs.View.{plain}
use Rattle.smv_meaning.specs.Types.{ExprType, is_truth_type}
use Rattle.smv_meaning.specs.Checks.{check, typing, on_type}
use Rattle.smv_meaning.specs.Phases.{place_of}
use Rattle.smv_meaning.specs.Settled.{types_in}
use Rattle.smv_meaning.specs.laws.Composing.{ends}
use Rattle.smv_instances.specs.View.{instance_plain}
use Rattle.smv_intervals.specs.View.{seen}
use Rattle.smv_types.specs.View.{position_seen}
use Rattle.smv_model_types.specs.Building.{expression_paths}
use Rattle.smv_model_types.proofs.BuildingLaws.{fit_fails, fit_passes, passed}
use Rattle.smv_model_types.proofs.Finding.{finds_where}
use Rattle.smv_model_types.proofs.TypedPaths.{stored_found}
use Rattle.smv_model_types.proofs.building.add_formula.Goals as goal

pub returns-in_err-x-clause-checks : goal.returns-in_err-x-clause-checks
returns-in_err-x-clause-checks c =
    let e = plain c.args.e.now in
    let a = typing (types_in true (map instance_plain c.args.context.now.model.now.table.now) c.args.i) (position_seen c.args.position) e in
    let stop = ends c.in_err-x.field-0.0 a.checks (check 16 (place_of e) (on_type a.type is_truth_type) ∷ []) c.in_err-x.ensures in
    search (rules, c.from_residual.ensures, stop)

pub returns-then-not-is_truth-clause-checks : goal.returns-then-not-is_truth-clause-checks
returns-then-not-is_truth-clause-checks c =
    let e = plain c.args.e.now in
    let a = typing (types_in true (map instance_plain c.args.context.now.model.now.table.now) c.args.i) (position_seen c.args.position) e in
    fit_fails a (place_of e) (option_map seen c.in_ok-x.x.ty) (λ (t : Option ExprType). on_type t is_truth_type) c.in_ok-x.ensures.0 (sym c.if-not-is_truth.ensures)
    ∙ ap (λ p. Some (check 16 p false).refusal) (sym c.place.ensures)

pub returns-clause-checks : goal.returns-clause-checks
returns-clause-checks c =
    let e = plain c.args.e.now in
    let a = typing (types_in true (map instance_plain c.args.context.now.model.now.table.now) c.args.i) (position_seen c.args.position) e in
    fit_passes a (place_of e) (option_map seen c.in_ok-x.x.ty) (λ (t : Option ExprType). on_type t is_truth_type) c.in_ok-x.ensures.0 (sym c.is_truth.ensures ∙ c.if-not-is_truth.false)

pub returns-clause-found : goal.returns-clause-found
returns-clause-found c =
    let t = map instance_plain c.args.context.now.model.now.table.now in
    let e = plain c.args.e.now in
    let at = position_seen c.args.position in
    let type = (passed (typing (types_in true t c.args.i) at e) (option_map seen c.in_ok-x.x.ty) c.in_ok-x.ensures.0).1 in
    finds_where (expression_paths t c.args.i e) c.is_some.result c.args.built.now.all_found _ refl
    (λ h. stored_found t c.args.i at e c.in_ok-x.x.ty type (sym c.is_some.ensures ∙ h))

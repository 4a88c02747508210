use Rattle.std.proofs.Common.{rules, ◌≡◌, true, length, map, option_map, refl, sym, ◌∙◌}
use Rattle.smv_text.specs.View.{plain}
use Rattle.smv_meaning.specs.Checks.{typing}
use Rattle.smv_meaning.specs.Naming.{in_body}
use Rattle.smv_meaning.specs.Settled.{types_in}
use Rattle.smv_intervals.specs.View.{seen}
use Rattle.smv_model_types.specs.Building.{expression_paths}
use Rattle.smv_instances.specs.View.{instance_plain}
use Rattle.smv_model_types.proofs.BuildingLaws.{body_added, passed}
use Rattle.smv_model_types.proofs.Finding.{finds_where}
use Rattle.smv_model_types.proofs.TypedPaths.{stored_found}
use Rattle.smv_model_types.proofs.building.add_body.Goals as goal

pub returns-clause-adds : goal.returns-clause-adds
returns-clause-adds c =
    let long : c.len-item.result ≡ length c.args.built.now.types.items = search (rules, c.len-item.ensures, c.well_formed) in
    body_added (map instance_plain c.args.context.now.model.now.table.now) c.args.i c.args.reader (plain c.args.e.now) c.in_ok-x.x c.len-item.result c.args.built.now _ long c.in_ok-x.ensures.typed c.in_ok-push.ensures.items c.in_ok-push-2.ensures refl refl (λ h. c.body_typed.ensures.kept)

pub returns-clause-found : goal.returns-clause-found
returns-clause-found c =
    let t = map instance_plain c.args.context.now.model.now.table.now in
    let e = plain c.args.e.now in
    let type = (passed (typing (types_in true t c.args.reader) in_body e) (option_map seen c.in_ok-x.x.ty) c.in_ok-x.ensures.typed.0).1 in
    finds_where (expression_paths t c.args.reader e) c.is_some.result c.args.built.now.all_found _ refl
    (λ h. stored_found t c.args.reader in_body e c.in_ok-x.x.ty type (sym c.is_some.ensures ∙ h))

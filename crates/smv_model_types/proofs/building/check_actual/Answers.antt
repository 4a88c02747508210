use Rattle.std.proofs.Common.{true, Ok, map, sym}
use Rattle.smv_text.specs.View.{plain}
use Rattle.smv_meaning.specs.Checks.{typing}
use Rattle.smv_meaning.specs.Naming.{in_body}
use Rattle.smv_meaning.specs.Settled.{types_in}
use Rattle.smv_instances.specs.View.{instance_plain}
use Rattle.smv_model_types.proofs.BodyLemmas.{other_actual}
use Rattle.smv_model_types.proofs.BuildingLaws.{passed}
use Rattle.smv_model_types.proofs.building.check_actual.Goals as goal

pub returns-in_ok-expression : goal.returns-in_ok-expression
returns-in_ok-expression c =
    let names = types_in true (map instance_plain c.args.context.now.model.now.table.now) c.args.parent in
    let e = plain c.args.e.now in
    other_actual names e (Ok tt) (sym c.if-not-is_path.ensures) (passed (typing names in_body e) _ c.in_ok-expression.ensures.0).0

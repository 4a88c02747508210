use Rattle.std.proofs.Common.{subst}
use Rattle.smv_text.specs.View.{plain}
use Rattle.smv_meaning.specs.Checks.{Position, first_failing, typing, IsBad}
use Rattle.smv_meaning.specs.Naming.{in_body}
use Rattle.smv_model_types.specs.Reading.{names_of}
use Rattle.smv_model_types.proofs.BodyLemmas.{bad_has_none}
use Rattle.smv_model_types.proofs.bodies.body_typed.Goals as goal

pub returns-in-Err-Bad : goal.returns-in-Err-Bad
returns-in-Err-Bad c =
    let names = names_of c.args.names.now in
    let e = plain c.args.e.now in
    bad_has_none c.refused_have_no_type.ensures names in_body e c.in-Err-Bad.field-0 c.in-Err-Bad.field-0-0 c.in-Err-Bad.field-0-is
    (subst (λ (at : Position). IsBad c.in-Err-Bad.field-0 (first_failing (typing names at e).checks)) c.of.ensures c.in-Err-Bad.ensures)

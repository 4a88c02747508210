use Rattle.std.proofs.Common.{◌++◌, Some, ap, ◌∙◌}
use Rattle.moxi_sexpr.specs.Tree.{plain as plain_form}
use Rattle.moxi_terms.specs.declared.data.Sort.TheVariants.{Truth}
use Rattle.moxi_scripts.specs.Collecting.{also}
use Rattle.moxi_scripts.specs.Declarations.{clash_failures}
use Rattle.moxi_scripts.specs.Formulas.{reading_of}
use Rattle.moxi_attributes.specs.laws.Collecting.{also_two}
use Rattle.moxi_attributes.proofs.formulas.read_truth.Goals as goal

pub returns-clause-finds : goal.returns-clause-finds
returns-clause-finds c =
    let a = c.args in
    let x = reading_of a.scope.now a.locals.now a.primes (plain_form a.form.now) in
    let r = c.in_ok-r.ensures in
    also_two _ _ _ _ _ (c.note.ensures x.failures r.failure) c.test_clash.ensures
    ∙ ap (λ o. also a.found.now (x.failures ++ clash_failures (Some Truth) o c.place_of.result)) r.sort
    ∙ ap (λ p. also a.found.now (x.failures ++ clash_failures (Some Truth) x.sort p)) c.place_of.ensures

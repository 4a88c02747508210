use Rattle.std.proofs.Common.{◌<◌, ◌∙◌, sym, subst}
use Rattle.name_maps.specs.laws.Places.{place_below}
use Rattle.smv_rows.proofs.VariableRows.{one_given}
use Rattle.smv_rows.proofs.variables.give_name.Goals as goal

pub returns-in-Some-clause-given : goal.returns-in-Some-clause-given
returns-in-Some-clause-given c =
    let at = sym c.place.ensures ∙ c.in-Some.is in
    one_given c.args.names.now c.args.name.now c.args.value.now c.in-Some.p c.args.values.now.items c.borrow_value.result
    (subst (λ n. c.in-Some.p < n) (sym c.requires) (place_below c.args.names.now c.args.name.now c.in-Some.p at)) c.borrow_value.ensures at

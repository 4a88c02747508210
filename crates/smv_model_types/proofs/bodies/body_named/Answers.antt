use Rattle.std.proofs.Common.{subst}
use Rattle.smv_text.specs.View.{plain}
use Rattle.smv_items.specs.FlatItems.{leaf_in}
use Rattle.smv_model_types.specs.Kept.{IsTried}
use Rattle.smv_model_types.specs.Reading.{entries_of, instances_of, names_of}
use Rattle.smv_model_types.proofs.KeptLemmas.{typed_named}
use Rattle.smv_model_types.proofs.bodies.body_named.Goals as goal

pub returns-in-Some : goal.returns-in-Some
returns-in-Some c =
    let names = c.args.names.now in
    let e = plain c.args.e.now in
    typed_named (instances_of names) (entries_of names) names.instance e c.in-Some.x (subst (IsTried (names_of names) (leaf_in (instances_of names) names.instance) e) c.in-Some.is c.requires)

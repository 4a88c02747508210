use Rattle.std.proofs.Common.{rules, List, [], map, sym, ap, subst, ◌∙◌}
use Rattle.smv_text.specs.View.{plain_source}
use Rattle.smv_meaning.specs.Bodies.{IsBodyOrder}
use Rattle.smv_meaning.specs.Checks.{first_failing}
use Rattle.smv_meaning.specs.Instances.{Instance}
use Rattle.smv_instances.specs.View.{instance_plain}
use Rattle.smv_flat.specs.FlatForms.{flat_of}
use Rattle.smv_names.specs.Assigning.{numbered_checks}
use Rattle.smv_flat_laws.specs.FlatOrders.{IsItemOrder, item_order}
use Rattle.smv_flat_laws.proofs.ItemOrders.{flat_is_ordered_law}
use Rattle.smv_flatten.specs.FlatModel.{AreOfModel}
use Rattle.smv_flatten.proofs.Models.{accepted, refused_later, are_of_model}
use Rattle.smv_flatten.proofs.flattening.flat_ordered.Goals as goal

pub flattened-requires-clause-order : goal.flattened-requires-clause-order
flattened-requires-clause-order c =
    let source = plain_source c.args.source.now in
    let t = map instance_plain c.args.model.now.table in
    let same = c.requires.table in
    let order = c.args.ordered.now.order in
    let passes = accepted source c.args.needed t same c.requires.checks c.in_ok-contents.ensures.found c.requires.cycles c.in_ok-contents.ensures.typed (sym c.in_ok-contents.ensures.assigned ∙ ap (λ l. first_failing (numbered_checks [] l)) (sym c.deref.ensures.value) ∙ c.in_ok-assignments_checked.ensures) c.in_ok-invariants.ensures.checks in
    let law = flat_is_ordered_law source c.args.needed passes order (subst (λ (t : List Instance). IsBodyOrder t order) same c.requires.order) in
    subst (IsItemOrder (flat_of t)) (sym c.in_ok-contents.ensures.order) (subst (λ (t : List Instance). IsItemOrder (flat_of t) (item_order t order)) (sym same) law)

pub flattened-requires-clause-model : goal.flattened-requires-clause-model
flattened-requires-clause-model c =
    let source = plain_source c.args.source.now in
    let t = map instance_plain c.args.model.now.table in
    let same = c.requires.table in
    let passes = accepted source c.args.needed t same c.requires.checks c.in_ok-contents.ensures.found c.requires.cycles c.in_ok-contents.ensures.typed (sym c.in_ok-contents.ensures.assigned ∙ ap (λ l. first_failing (numbered_checks [] l)) (sym c.deref.ensures.value) ∙ c.in_ok-assignments_checked.ensures) c.in_ok-invariants.ensures.checks in
    subst (λ (t : List Instance). AreOfModel t) (sym same) (are_of_model source c.args.needed c.requires.read passes)

pub returns-clause-passes : goal.returns-clause-passes
returns-clause-passes c =
    accepted (plain_source c.args.source.now) c.args.needed (map instance_plain c.args.model.now.table) c.requires.table c.requires.checks c.in_ok-contents.ensures.found c.requires.cycles c.in_ok-contents.ensures.typed
    (sym c.in_ok-contents.ensures.assigned ∙ ap (λ l. first_failing (numbered_checks [] l)) (sym c.deref.ensures.value) ∙ c.in_ok-assignments_checked.ensures) c.in_ok-invariants.ensures.checks

pub returns-in_err-contents-clause-checks : goal.returns-in_err-contents-clause-checks
returns-in_err-contents-clause-checks c =
    let stop = refused_later (plain_source c.args.source.now) c.args.needed (map instance_plain c.args.model.now.table) c.in_err-contents.field-0.0 c.requires.table c.requires.checks c.requires.cycles
    c.in_err-contents.ensures.refused in
    search (rules, c.from_residual.ensures, stop)

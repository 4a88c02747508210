use Rattle.std.proofs.Common.{◌≡◌, None, [], map, flat_map, refl, sym, subst}
use Rattle.smv_meaning.specs.Names.{parent_of}
use Rattle.smv_meaning.specs.Checks.{first_failing}
use Rattle.smv_meaning.specs.Phases.{actuals_typing, element_typing, names_in}
use Rattle.smv_meaning.specs.laws.Composing.{both_pass}
use Rattle.smv_instances.specs.View.{instance_plain}
use Rattle.smv_items.specs.FlatItems.{actual_items, element_items}
use Rattle.smv_model_types.specs.Building.{Adds, IsReady}
use Rattle.smv_model_types.proofs.BuildingLaws.{instance_added}
use Rattle.smv_model_types.proofs.Finding.{instance_found}
use Rattle.smv_model_types.proofs.Ready.{ready_first, ready_behind}
use Rattle.smv_model_types.proofs.building.add_instance.Goals as goal

pub add_actuals-requires : goal.add_actuals-requires
add_actuals-requires c =
    let t = map instance_plain c.args.context.now.model.now.table.now in
    let at = instance_plain c.args.at.now in
    let i = c.args.i in
    let own = ready_first t (actual_items i (parent_of at) at.module.parameters at.actuals) (flat_map (element_items i) at.module.elements) c.args.built.now c.requires.ready in
    record { ready = subst (λ j. IsReady t (actual_items i j at.module.parameters at.actuals) c.args.built.now) (sym c.unwrap_or-parent.ensures) own }

pub add_elements-requires : goal.add_elements-requires
add_elements-requires c =
    let t = map instance_plain c.args.context.now.model.now.table.now in
    let at = instance_plain c.args.at.now in
    let i = c.args.i in
    let added = subst (λ j. Adds t (actual_items i j at.module.parameters at.actuals) [] c.args.built.now c.add_actuals.new.built) c.unwrap_or-parent.ensures c.in_ok-add_actuals.ensures.adds in
    record { ready = ready_behind t (actual_items i (parent_of at) at.module.parameters at.actuals) (flat_map (element_items i) at.module.elements) [] c.args.built.now c.add_actuals.new.built added c.requires.ready }

pub returns-clause-checks : goal.returns-clause-checks
returns-clause-checks c =
    let t = map instance_plain c.args.context.now.model.now.table.now in
    let at = instance_plain c.args.at.now in
    let i = c.args.i in
    let own = subst (λ j. first_failing (actuals_typing (names_in t j) at.actuals) ≡ None) c.unwrap_or-parent.ensures c.in_ok-add_actuals.ensures.checks in
    both_pass (actuals_typing (names_in t (parent_of at)) at.actuals) (flat_map (element_typing (names_in t i)) at.module.elements) own c.in_ok-add_elements.ensures.checks

pub returns-clause-adds : goal.returns-clause-adds
returns-clause-adds c =
    instance_added (map instance_plain c.args.context.now.model.now.table.now) c.args.i c.unwrap_or-parent.result (instance_plain c.args.at.now) c.args.built.now c.add_actuals.new.built c.add_elements.new.built _
    c.unwrap_or-parent.ensures c.requires.none c.in_ok-add_actuals.ensures.adds c.in_ok-add_elements.ensures.adds c.in_ok-append.ensures.items c.in_ok-append.ensures.other_items refl refl refl

pub returns-clause-found : goal.returns-clause-found
returns-clause-found c =
    instance_found (map instance_plain c.args.context.now.model.now.table.now) c.args.i c.unwrap_or-parent.result (instance_plain c.args.at.now) c.args.built.now c.add_actuals.new.built c.add_elements.new.built
    c.unwrap_or-parent.ensures c.in_ok-add_actuals.ensures.found c.in_ok-add_elements.ensures.found

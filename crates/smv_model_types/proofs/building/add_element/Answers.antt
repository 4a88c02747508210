use Rattle.std.specs.Prelude.{OnOk}
use Rattle.std.proofs.Common.{true, List, map, sym, subst}
use Rattle.smv_text.specs.View.{plain_definition, plain_assignment, plain_element}
use Rattle.smv_text.specs.declared.tree.Element.{Element}
use Rattle.smv_meaning.specs.Checks.{Check}
use Rattle.smv_meaning.specs.Phases.{element_typing}
use Rattle.smv_meaning.specs.Settled.{types_in}
use Rattle.smv_instances.specs.View.{instance_plain}
use Rattle.smv_names.specs.Outcome.{Settles}
use Rattle.smv_model_types.specs.Building.{Finds, paths_here}
use Rattle.smv_model_types.proofs.Finding.{definitions_found, assignments_found}
use Rattle.smv_model_types.proofs.building.add_element.Goals as goal

pub returns-in-Init-clause-checks : goal.returns-in-Init-clause-checks
returns-in-Init-clause-checks c =
    subst (λ (m : Element). Settles c.add_formula.result (element_typing (types_in true (map instance_plain c.args.context.now.model.now.table.now) c.args.i) (plain_element m))) (sym c.in-Init.is) c.add_formula.ensures.checks

pub returns-in-Trans-clause-checks : goal.returns-in-Trans-clause-checks
returns-in-Trans-clause-checks c =
    subst (λ (m : Element). Settles c.add_formula-in-Trans.result (element_typing (types_in true (map instance_plain c.args.context.now.model.now.table.now) c.args.i) (plain_element m))) (sym c.in-Trans.is) c.add_formula-in-Trans.ensures.checks

pub returns-in-Invar-clause-checks : goal.returns-in-Invar-clause-checks
returns-in-Invar-clause-checks c =
    subst (λ (m : Element). Settles c.add_formula-in-Invar.result (element_typing (types_in true (map instance_plain c.args.context.now.model.now.table.now) c.args.i) (plain_element m))) (sym c.in-Invar.is) c.add_formula-in-Invar.ensures.checks

pub returns-in-Spec-clause-checks : goal.returns-in-Spec-clause-checks
returns-in-Spec-clause-checks c =
    subst (λ (m : Element). Settles c.add_formula-in-Spec.result (element_typing (types_in true (map instance_plain c.args.context.now.model.now.table.now) c.args.i) (plain_element m))) (sym c.in-Spec.is) c.add_formula-in-Spec.ensures.checks

pub returns-in-Defines-clause-found : goal.returns-in-Defines-clause-found
returns-in-Defines-clause-found c =
    let t = map instance_plain c.args.context.now.model.now.table.now in
    let own = subst (λ (cs : List Check). OnOk c.add_definitions.result (Finds cs c.args.built.now c.add_definitions.new.built)) (definitions_found t c.args.i (map plain_definition c.in-Defines.definitions)) c.add_definitions.ensures.found in
    subst (λ (m : Element). OnOk c.add_definitions.result (Finds (paths_here t c.args.i (plain_element m)) c.args.built.now c.add_definitions.new.built)) (sym c.in-Defines.is) own

pub returns-in-Assigns-clause-found : goal.returns-in-Assigns-clause-found
returns-in-Assigns-clause-found c =
    let t = map instance_plain c.args.context.now.model.now.table.now in
    let own = subst (λ (cs : List Check). OnOk c.add_assignments.result (Finds cs c.args.built.now c.add_assignments.new.built)) (assignments_found t c.args.i (map plain_assignment c.in-Assigns.assignments)) c.add_assignments.ensures.found in
    subst (λ (m : Element). OnOk c.add_assignments.result (Finds (paths_here t c.args.i (plain_element m)) c.args.built.now c.add_assignments.new.built)) (sym c.in-Assigns.is) own

use Rattle.std.specs.Prelude.{OnOk}
use Rattle.std.proofs.Common.{rules, ◌≡◌, ◌≤◌, true, List, [], ◌++◌, length, map, flat_map, take, ap, subst, sym, ◌∙◌, arith}
use Rattle.std.proofs.lemmas.List.{take-append-drop}
use Rattle.smv_text.specs.Tree.{trees_of}
use Rattle.smv_text.specs.View.{plain}
use Rattle.smv_meaning.specs.Checks.{Check, first_failing, IsBad}
use Rattle.smv_meaning.specs.Names.{found_in}
use Rattle.smv_meaning.specs.Phases.{actual_typing, path_check}
use Rattle.smv_meaning.specs.Settled.{types_in}
use Rattle.smv_meaning.specs.laws.Composing.{ends, ends_behind, both_pass}
use Rattle.smv_instances.specs.View.{instance_plain}
use Rattle.smv_items.specs.FlatItems.{actual_items}
use Rattle.smv_names.specs.Outcome.{Settles}
use Rattle.smv_model_types.specs.Building.{Finds, own_items}
use Rattle.smv_model_types.proofs.Parameters.{checks_split, own_split, own_all, own_ready, own_adds, adds_unfound, on_ok_map}
use Rattle.smv_model_types.proofs.TypedPaths.{trees_found}
use Rattle.smv_model_types.proofs.Walks.{actuals_each}
use Rattle.smv_model_types.proofs.building.add_actuals.Goals as goal

pub add_own-requires : goal.add_own-requires
add_own-requires c =
    let t = map instance_plain c.args.context.now.model.now.table.now in
    let names = types_in true t c.args.parent in
    let es = c.args.actuals.now in
    let qs = c.args.parameters.now in
    let items = actual_items c.args.i c.args.parent qs (trees_of (map plain es)) in
    let own = c.split_at.result.0.now in
    let others = c.split_at.result.1.now in
    let e : es ≡ own ++ others = sym (ap (λ xs. xs ++ others) c.split_at.ensures.front ∙ ap (λ xs. take c.len-then-len-actuals.result es ++ xs) c.split_at.ensures.back ∙ take-append-drop c.len-then-len-actuals.result es) in
    let l : length own ≡ length qs = search (rules, c.split_at.ensures, c.len-then-len-actuals.ensures) in
    let same = own_split c.args.i c.args.parent qs es own others e l in
    record { ready = own_ready t items (flat_map (own_items c.args.i c.args.parent) (map plain own)) c.args.built.now same c.requires.ready }

pub returns-in_err-add_own-clause-checks : goal.returns-in_err-add_own-clause-checks
returns-in_err-add_own-clause-checks c =
    let t = map instance_plain c.args.context.now.model.now.table.now in
    let names = types_in true t c.args.parent in
    let es = c.args.actuals.now in
    let qs = c.args.parameters.now in
    let items = actual_items c.args.i c.args.parent qs (trees_of (map plain es)) in
    let own = c.split_at.result.0.now in
    let others = c.split_at.result.1.now in
    let e : es ≡ own ++ others = sym (ap (λ xs. xs ++ others) c.split_at.ensures.front ∙ ap (λ xs. take c.len-then-len-actuals.result es ++ xs) c.split_at.ensures.back ∙ take-append-drop c.len-then-len-actuals.result es) in
    let l : length own ≡ length qs = search (rules, c.split_at.ensures, c.len-then-len-actuals.ensures) in
    let same = own_split c.args.i c.args.parent qs es own others e l in
    let f = actual_typing names in
    let stop = subst (IsBad c.in_err-add_own.field-0.0) (ap first_failing (sym (checks_split names es own others e)))
    (ends c.in_err-add_own.field-0.0 (flat_map f (map plain own)) (flat_map f (map plain others)) c.in_err-add_own.ensures.checks) in
    search (rules, c.from_residual.ensures, stop)

pub add_own-requires-else-len-actuals : goal.add_own-requires-else-len-actuals
add_own-requires-else-len-actuals c =
    let t = map instance_plain c.args.context.now.model.now.table.now in
    let names = types_in true t c.args.parent in
    let es = c.args.actuals.now in
    let qs = c.args.parameters.now in
    let items = actual_items c.args.i c.args.parent qs (trees_of (map plain es)) in
    let l : length es ≤ length qs = omega (arith, c.if-len-actuals.false, c.len.ensures) in
    record { ready = own_ready t items (flat_map (own_items c.args.i c.args.parent) (map plain es)) c.args.built.now (own_all c.args.i c.args.parent qs es l) c.requires.ready }

pub returns-in_err-check_others-clause-checks : goal.returns-in_err-check_others-clause-checks
returns-in_err-check_others-clause-checks c =
    let t = map instance_plain c.args.context.now.model.now.table.now in
    let names = types_in true t c.args.parent in
    let es = c.args.actuals.now in
    let qs = c.args.parameters.now in
    let items = actual_items c.args.i c.args.parent qs (trees_of (map plain es)) in
    let own = c.split_at.result.0.now in
    let others = c.split_at.result.1.now in
    let e : es ≡ own ++ others = sym (ap (λ xs. xs ++ others) c.split_at.ensures.front ∙ ap (λ xs. take c.len-then-len-actuals.result es ++ xs) c.split_at.ensures.back ∙ take-append-drop c.len-then-len-actuals.result es) in
    let f = actual_typing names in
    let stop = subst (IsBad c.in_err-check_others.field-0.0) (ap first_failing (sym (checks_split names es own others e)))
    (ends_behind c.in_err-check_others.field-0.0 (flat_map f (map plain own)) (flat_map f (map plain others)) c.in_ok-add_own.ensures.checks c.in_err-check_others.ensures) in
    search (rules, c.from_residual-in_err-check_others.ensures, stop)

pub returns-in_ok-check_others-clause-checks : goal.returns-in_ok-check_others-clause-checks
returns-in_ok-check_others-clause-checks c =
    let t = map instance_plain c.args.context.now.model.now.table.now in
    let names = types_in true t c.args.parent in
    let es = c.args.actuals.now in
    let qs = c.args.parameters.now in
    let items = actual_items c.args.i c.args.parent qs (trees_of (map plain es)) in
    let own = c.split_at.result.0.now in
    let others = c.split_at.result.1.now in
    let e : es ≡ own ++ others = sym (ap (λ xs. xs ++ others) c.split_at.ensures.front ∙ ap (λ xs. take c.len-then-len-actuals.result es ++ xs) c.split_at.ensures.back ∙ take-append-drop c.len-then-len-actuals.result es) in
    let f = actual_typing names in
    ap first_failing (checks_split names es own others e) ∙ both_pass (flat_map f (map plain own)) (flat_map f (map plain others)) c.in_ok-add_own.ensures.checks c.in_ok-check_others.ensures

pub returns-in_ok-check_others-clause-adds : goal.returns-in_ok-check_others-clause-adds
returns-in_ok-check_others-clause-adds c =
    let t = map instance_plain c.args.context.now.model.now.table.now in
    let names = types_in true t c.args.parent in
    let es = c.args.actuals.now in
    let qs = c.args.parameters.now in
    let items = actual_items c.args.i c.args.parent qs (trees_of (map plain es)) in
    let own = c.split_at.result.0.now in
    let others = c.split_at.result.1.now in
    let e : es ≡ own ++ others = sym (ap (λ xs. xs ++ others) c.split_at.ensures.front ∙ ap (λ xs. take c.len-then-len-actuals.result es ++ xs) c.split_at.ensures.back ∙ take-append-drop c.len-then-len-actuals.result es) in
    let l : length own ≡ length qs = search (rules, c.split_at.ensures, c.len-then-len-actuals.ensures) in
    let same = own_split c.args.i c.args.parent qs es own others e l in
    adds_unfound t items [] c.args.built.now c.add_own.new.built (own_adds t items (flat_map (own_items c.args.i c.args.parent) (map plain own)) [] c.args.built.now c.add_own.new.built same c.in_ok-add_own.ensures.adds)

pub returns-else-len-actuals-clause-checks : goal.returns-else-len-actuals-clause-checks
returns-else-len-actuals-clause-checks c =
    let t = map instance_plain c.args.context.now.model.now.table.now in
    let names = types_in true t c.args.parent in
    let es = c.args.actuals.now in
    let qs = c.args.parameters.now in
    let items = actual_items c.args.i c.args.parent qs (trees_of (map plain es)) in
    subst (Settles c.add_own-else-len-actuals.result) (sym (actuals_each names (map plain es))) c.add_own-else-len-actuals.ensures.checks

pub returns-else-len-actuals-clause-adds : goal.returns-else-len-actuals-clause-adds
returns-else-len-actuals-clause-adds c =
    let t = map instance_plain c.args.context.now.model.now.table.now in
    let names = types_in true t c.args.parent in
    let es = c.args.actuals.now in
    let qs = c.args.parameters.now in
    let items = actual_items c.args.i c.args.parent qs (trees_of (map plain es)) in
    let l : length es ≤ length qs = omega (arith, c.if-len-actuals.false, c.len.ensures) in
    on_ok_map c.add_own-else-len-actuals.result
    (own_adds t items (flat_map (own_items c.args.i c.args.parent) (map plain es)) [] c.args.built.now c.add_own-else-len-actuals.new.built (own_all c.args.i c.args.parent qs es l))
    c.add_own-else-len-actuals.ensures.adds

pub returns-else-len-actuals-clause-found : goal.returns-else-len-actuals-clause-found
returns-else-len-actuals-clause-found c =
    let t = map instance_plain c.args.context.now.model.now.table.now in
    subst (λ (cs : List Check). OnOk c.add_own-else-len-actuals.result (Finds cs c.args.built.now c.add_own-else-len-actuals.new.built))
    (sym (trees_found (path_check (found_in t) c.args.parent) (map plain c.args.actuals.now))) c.add_own-else-len-actuals.ensures.found

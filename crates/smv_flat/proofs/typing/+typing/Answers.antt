use Rattle.std.proofs.Common.{◌≡◌, ◌+◌, ◌∷◌, ◌||◌, ◌∙◌, [], Ok, Err, IfOk, IsTrue, false, true, rules, map, drop, option_map, refl, sym, ap, subst}
use Rattle.std.specs.List.{list_any}
use Rattle.smv_text.specs.declared.tree.Expr.{the_lemmas as expr_lemmas}
use Rattle.smv_text.specs.declared.tree.Link.{the_lemmas as link_lemmas}
use Rattle.smv_text.specs.declared.tree.Branch.{the_lemmas as branch_lemmas}
use Rattle.smv_text.specs.Tree.{Tree, prefix, select, next, call, set, cases, choice, chain, links_of, branches_of, trees_of}
use Rattle.smv_text.specs.View.{plain, plain_link, plain_branch}
use Rattle.smv_meaning.specs.Types.{numbers_of}
use Rattle.smv_meaning.specs.Checks.{typing, single, across, are_unions, linked, tree_checks, tree_types, link_checks, link_types, branch_checks, condition_types, value_types, all_types, under_next, first_failing}
use Rattle.smv_meaning.specs.laws.Composing.{ends}
use Rattle.smv_intervals.specs.View.{seen}
use Rattle.smv_types.specs.View.{permissions_seen}
use Rattle.smv_types.specs.Outcome.{outcome, Ends, is_known, links_known}
use Rattle.smv_types.specs.Steps.{passed, prefix_step, select_step, next_step, call_step, set_step, implies_step, branches_step, front_step}
use Rattle.smv_types.specs.Operands.{implications_typing}
use Rattle.smv_types.specs.laws.Composing.{over, passed_operand}
use Rattle.smv_types.specs.laws.Stepping.{taken, right_holds, rest_refuses, rest_stops, trees_end, trees_go, trees_more, trees_still, links_end, links_go, links_more, links_still, conditions_end, values_end, branches_go, conditions_more, values_more, branches_still, fronts_end, fronts_stop, fronts_go}
use Rattle.smv_types.specs.laws.Shapes.{plain_chain, plain_choice, right_goes, left_goes, chain_stops, choice_stops, last_stops, choice_goes}
use Rattle.smv_flat.specs.declared.expressions.FlatShape.TheVariants as OfShape
use Rattle.smv_flat.specs.FlatTree.{FlatLinks, flat_prefix, flat_select, flat_call, flat_set, flat_cases, flat_choice, flat_links_of, flat_branches_of, flat_trees_of, flat_tree, flat_links, flat_branches, flat_trees, is_set, has_set, reaches, links_reach, branches_reach, trees_reach}
use Rattle.smv_flat.specs.FlatView.{plain_flat, plain_flat_link, plain_flat_branch, mapped, type_of_rest, EndsTyped}
use Rattle.smv_flat.proofs.TypedNodes.{stopped, err_mapped, node_ends, chain_ends, retyped_ends, handed, grown, finished, any_grown, any_finished, shape_prefix, shape_select, shape_call, shape_set, shape_case, shape_choice, link_flat, links_are, link_reaches, any_link, same_flat, same_are, right_chain, branch_flat, branches_are, sets_are, value_set, branch_reaches, any_branch, part_flat, parts_are, part_reaches, any_part, value_known, plain_truth_is, plain_untruth_is, plain_number_is, plain_literal_is, plain_range_is}
use Rattle.smv_flat.proofs.typing.+typing.Goals as goal

-- ---- atoms

pub typed-returns-in-True : goal.typed-returns-in-True
typed-returns-in-True g t c =
    let names = g.C.Naming.names c.args.scope.now in
    let leaf = g.C.Naming.leaves c.args.scope.now in
    let at = permissions_seen c.args.at in
    subst (λ (e : Tree). EndsTyped names leaf at c.args.under e c.truth_typed.result) (sym (plain_truth_is c.args.e.now c.in-True.is)) (c.truth_typed.ensures names leaf at c.args.under)

pub typed-returns-in-False : goal.typed-returns-in-False
typed-returns-in-False g t c =
    let names = g.C.Naming.names c.args.scope.now in
    let leaf = g.C.Naming.leaves c.args.scope.now in
    let at = permissions_seen c.args.at in
    subst (λ (e : Tree). EndsTyped names leaf at c.args.under e c.truth_typed-in-False.result) (sym (plain_untruth_is c.args.e.now c.in-False.is)) (c.truth_typed-in-False.ensures names leaf at c.args.under)

pub typed-returns-in-Number : goal.typed-returns-in-Number
typed-returns-in-Number g t c =
    let names = g.C.Naming.names c.args.scope.now in
    let leaf = g.C.Naming.leaves c.args.scope.now in
    let at = permissions_seen c.args.at in
    subst (λ (e : Tree). EndsTyped names leaf at c.args.under e c.number_typed.result) (sym (plain_number_is c.args.e.now c.in-Number.n c.in-Number.is)) (c.number_typed.ensures names leaf at c.args.under)

pub typed-returns-in-Literal : goal.typed-returns-in-Literal
typed-returns-in-Literal g t c =
    let names = g.C.Naming.names c.args.scope.now in
    let leaf = g.C.Naming.leaves c.args.scope.now in
    let at = permissions_seen c.args.at in
    subst (λ (e : Tree). EndsTyped names leaf at c.args.under e c.literal_typed.result) (sym (plain_literal_is c.args.e.now c.in-Literal.word c.in-Literal.is)) (c.literal_typed.ensures names leaf at c.args.under)

pub typed-returns-in-Range : goal.typed-returns-in-Range
typed-returns-in-Range g t c =
    let names = g.C.Naming.names c.args.scope.now in
    let leaf = g.C.Naming.leaves c.args.scope.now in
    let at = permissions_seen c.args.at in
    subst (λ (e : Tree). EndsTyped names leaf at c.args.under e c.range_typed.result) (sym (plain_range_is c.args.e.now c.in-Range.low c.in-Range.high c.in-Range.is)) (search (rules, c.range_typed.ensures names leaf c.args.under))

-- ---- chains and choices

pub typed-returns-in_err-x-in-Chain : goal.typed-returns-in_err-x-in-Chain
typed-returns-in_err-x-in-Chain g t c =
    let names = g.C.Naming.names c.args.scope.now in
    let leaf = g.C.Naming.leaves c.args.scope.now in
    let at = permissions_seen c.args.at in
    let e = plain_chain c.args.e.now c.in-Chain.first c.in-Chain.links c.in-Chain.is in
    let first = plain c.in-Chain.first.value in
    let ls = links_of (map plain_link c.in-Chain.links.items) in
    subst (λ (tr : Tree). EndsTyped names leaf at c.args.under tr c.from_residual.result) (sym e) (
    stopped c.from_residual.result c.in_err-x-in-Chain.field-0.0 (typing names at (chain c.args.e.now.place first ls)) _ _ _ c.from_residual.ensures.1
    (chain_stops names at c.args.e.now.place first ls (Err c.in_err-x-in-Chain.field-0.0) c.in_err-x-in-Chain.field-0.0 refl
    (rw (c.first_standing.ensures, c.deref-in-Chain.ensures, c.as_slice-links.ensures.value) at c.in_err-x-in-Chain.ensures))
    )

pub typed-rest_typed-requires : goal.typed-rest_typed-requires
typed-rest_typed-requires g t c κs within =
    let knows = g.C.Naming.knows c.args.scope.now in
    let e = plain_chain c.args.e.now c.in-Chain.first c.in-Chain.links c.in-Chain.is in
    let ls = links_of (map plain_link c.in-Chain.links.items) in
    let known = right_holds (is_known knows (plain c.in-Chain.first.value)) (links_known knows ls) (subst (λ (tr : Tree). IsTrue (is_known knows tr)) e c.requires) in
    (search (rules, expr_lemmas, link_lemmas), (within, ap (λ xs. links_known knows (links_of (map plain_link xs))) c.as_slice-links.ensures.value ∙ known))

pub typed-returns-in_ok-rest-in-Chain : goal.typed-returns-in_ok-rest-in-Chain
typed-returns-in_ok-rest-in-Chain g t c =
    let names = g.C.Naming.names c.args.scope.now in
    let leaf = g.C.Naming.leaves c.args.scope.now in
    let at = permissions_seen c.args.at in
    let e = plain_chain c.args.e.now c.in-Chain.first c.in-Chain.links c.in-Chain.is in
    let first = plain c.in-Chain.first.value in
    let ls = links_of (map plain_link c.in-Chain.links.items) in
    let told = rw (c.first_standing.ensures, c.deref-in-Chain.ensures, c.as_slice-links.ensures.value) at c.in_ok-x-in-Chain.ensures in
    let types = rw c.as_slice-links.ensures.value at c.in_ok-rest-in-Chain.ensures.types in
    let links = rw c.as_slice-links.ensures.value at c.in_ok-rest-in-Chain.ensures.links in
    let inputs = rw c.as_slice-links.ensures.value at c.in_ok-rest-in-Chain.ensures.inputs in
    let unions = rw c.as_slice-links.ensures.value at c.are_unions.ensures in
    subst (λ (tr : Tree). EndsTyped names leaf at c.args.under tr c.chained.result) (sym e) (
    chain_ends (typing names at (chain c.args.e.now.place first ls)) c.in_ok-x-in-Chain.x c.in_ok-rest-in-Chain.rest c.are_unions.result (are_unions ls) (reaches names first) (links_reach names ls)
    (flat_tree names leaf (across ls at) c.args.under first) (flat_links names leaf (across ls at) c.args.under ls) _ c.chained.result
    (types first told.0) c.chained.ensures unions told.1 links told.3 inputs refl
    )

pub typed-returns-in_err-cases-in-Choice : goal.typed-returns-in_err-cases-in-Choice
typed-returns-in_err-cases-in-Choice g t c =
    let names = g.C.Naming.names c.args.scope.now in
    let leaf = g.C.Naming.leaves c.args.scope.now in
    let at = permissions_seen c.args.at in
    let e = plain_choice c.args.e.now c.in-Choice.branches c.in-Choice.last c.in-Choice.is in
    let last = plain c.in-Choice.last.value in
    let bs = branches_of (map plain_branch c.in-Choice.branches.items) in
    subst (λ (tr : Tree). EndsTyped names leaf at c.args.under tr c.from_residual-in_err-cases-in-Choice.result) (sym e) (
    stopped c.from_residual-in_err-cases-in-Choice.result c.in_err-cases-in-Choice.field-0.0 (typing names at (choice c.args.e.now.place bs last)) _ _ _ c.from_residual-in_err-cases-in-Choice.ensures.1
    (choice_stops names at c.args.e.now.place bs last (Err c.in_err-cases-in-Choice.field-0.0) c.in_err-cases-in-Choice.field-0.0 refl
    (rw c.deref-in-Choice.ensures.value at c.in_err-cases-in-Choice.ensures.refused))
    )

-- ---- one operand

pub prefix_typed-returns-in_err-x : goal.prefix_typed-returns-in_err-x
prefix_typed-returns-in_err-x g t c =
    let names = g.C.Naming.names c.args.scope.now in
    let e = plain c.args.operand.now in
    let a = typing names (single (permissions_seen c.args.at)) e in
    stopped c.from_residual.result c.in_err-x.field-0.0 (typing names (permissions_seen c.args.at) (prefix c.args.place c.args.sign c.args.count e)) _ false _ c.from_residual.ensures.1
    (ends c.in_err-x.field-0.0 a.checks (prefix_step c.args.place c.args.sign c.args.count a.type).checks (rw c.without_sets.ensures at c.in_err-x.ensures))

pub prefix_typed-returns : goal.prefix_typed-returns
prefix_typed-returns g t c =
    let names = g.C.Naming.names c.args.scope.now in
    let leaf = g.C.Naming.leaves c.args.scope.now in
    let at = permissions_seen c.args.at in
    let e = plain c.args.operand.now in
    let x = option_map seen c.in_ok-x.x.ty in
    let told = rw c.without_sets.ensures at c.in_ok-x.ensures in
    node_ends (typing names at (prefix c.args.place c.args.sign c.args.count e)) c.answered-ty.result (OfShape.Prefix c.args.sign c.args.count c.in_ok-inner.inner) false false c.in_ok-x.x.reaches_input (reaches names e)
    (λ u. flat_prefix u c.args.sign c.args.count (flat_tree names leaf (single at) c.args.under e)) _ c.node.result
    (passed_operand c.answered-ty.result (typing names (single at) e) x (prefix_step c.args.place c.args.sign c.args.count) told.0 (c.answered-ty.ensures.typing (prefix_step c.args.place c.args.sign c.args.count x) c.check_sign.ensures))
    c.node.ensures refl told.3
    (λ u. shape_prefix c.args.sign c.args.count c.in_ok-inner.inner u ∙ ap (λ v. flat_prefix u c.args.sign c.args.count (plain_flat v)) c.in_ok-inner.ensures.ok ∙ ap (flat_prefix u c.args.sign c.args.count) told.1)
    refl

pub select_typed-returns-in_err-x : goal.select_typed-returns-in_err-x
select_typed-returns-in_err-x g t c =
    let names = g.C.Naming.names c.args.scope.now in
    let e = plain c.args.operand.now in
    let a = typing names (single (permissions_seen c.args.at)) e in
    stopped c.from_residual.result c.in_err-x.field-0.0 (typing names (permissions_seen c.args.at) (select c.args.place e c.args.high c.args.low)) _ false _ c.from_residual.ensures.1
    (ends c.in_err-x.field-0.0 a.checks (select_step c.args.place c.args.high c.args.low a.type).checks (rw c.without_sets.ensures at c.in_err-x.ensures))

pub select_typed-returns : goal.select_typed-returns
select_typed-returns g t c =
    let names = g.C.Naming.names c.args.scope.now in
    let leaf = g.C.Naming.leaves c.args.scope.now in
    let at = permissions_seen c.args.at in
    let e = plain c.args.operand.now in
    let x = option_map seen c.in_ok-x.x.ty in
    let told = rw c.without_sets.ensures at c.in_ok-x.ensures in
    node_ends (typing names at (select c.args.place e c.args.high c.args.low)) c.answered-ty.result (OfShape.Select c.in_ok-inner.inner c.args.high c.args.low) false false c.in_ok-x.x.reaches_input (reaches names e)
    (λ u. flat_select u (flat_tree names leaf (single at) c.args.under e) c.args.high c.args.low) _ c.node.result
    (passed_operand c.answered-ty.result (typing names (single at) e) x (select_step c.args.place c.args.high c.args.low) told.0 (c.answered-ty.ensures.typing (select_step c.args.place c.args.high c.args.low x) c.check_selection.ensures))
    c.node.ensures refl told.3
    (λ u. shape_select c.in_ok-inner.inner c.args.high c.args.low u ∙ ap (λ v. flat_select u (plain_flat v) c.args.high c.args.low) c.in_ok-inner.ensures.ok ∙ ap (λ v. flat_select u v c.args.high c.args.low) told.1)
    refl

pub next_typed-returns-in_err-x : goal.next_typed-returns-in_err-x
next_typed-returns-in_err-x g t c =
    let names = g.C.Naming.names c.args.scope.now in
    let e = plain c.args.operand.now in
    let a = typing names under_next e in
    stopped c.from_residual.result c.in_err-x.field-0.0 (typing names (permissions_seen c.args.at) (next c.args.place e)) _ (is_set e) _ c.from_residual.ensures.1
    (ends c.in_err-x.field-0.0 a.checks (next_step c.args.place (permissions_seen c.args.at) a.type).checks (rw c.under_next.ensures at c.in_err-x.ensures))

pub next_typed-returns : goal.next_typed-returns
next_typed-returns g t c =
    let names = g.C.Naming.names c.args.scope.now in
    let leaf = g.C.Naming.leaves c.args.scope.now in
    let at = permissions_seen c.args.at in
    let e = plain c.args.operand.now in
    let x = option_map seen c.in_ok-x.x.ty in
    let told = rw c.under_next.ensures at c.in_ok-x.ensures in
    retyped_ends (typing names at (next c.args.place e)) c.in_ok-x.x c.answered-ty.result (flat_tree names leaf under_next true e) (is_set e) (reaches names e) c.retyped.result
    (passed_operand c.answered-ty.result (typing names under_next e) x (next_step c.args.place at) told.0 (c.answered-ty.ensures.typing (next_step c.args.place at x) c.check_next.ensures))
    c.retyped.ensures told.1 told.2 told.3

-- ---- several operands

pub call_typed-returns-in_err-parts : goal.call_typed-returns-in_err-parts
call_typed-returns-in_err-parts g t c =
    let names = g.C.Naming.names c.args.scope.now in
    let at = single (permissions_seen c.args.at) in
    let es = trees_of (map plain c.args.arguments.now) in
    stopped c.from_residual.result c.in_err-parts.field-0.0 (typing names (permissions_seen c.args.at) (call c.args.place c.args.function es)) _ false _ c.from_residual.ensures.1
    (ends c.in_err-parts.field-0.0 (tree_checks names at es) (call_step c.args.place c.args.function (all_types (tree_types names at es)) (numbers_of es)).checks (rw c.without_sets.ensures at c.in_err-parts.ensures.refused))

pub call_typed-returns : goal.call_typed-returns
call_typed-returns g t c =
    let names = g.C.Naming.names c.args.scope.now in
    let leaf = g.C.Naming.leaves c.args.scope.now in
    let at = single (permissions_seen c.args.at) in
    let es = trees_of (map plain c.args.arguments.now) in
    node_ends (typing names (permissions_seen c.args.at) (call c.args.place c.args.function es)) c.check_call-ty.result (OfShape.Call c.args.function c.in_ok-parts.parts.exprs) false false c.in_ok-parts.parts.reaches_input (trees_reach names es)
    (λ u. flat_call u c.args.function (flat_trees names leaf at c.args.under es)) _ c.node.result
    (over c.check_call-ty.result (tree_checks names at es)
    (call_step c.args.place c.args.function (all_types (map (option_map seen) c.deref.result.now)) (numbers_of es))
    (call_step c.args.place c.args.function (all_types (tree_types names at es)) (numbers_of es))
    (rw c.without_sets.ensures at c.in_ok-parts.ensures.passes)
    (ap (λ ts. call_step c.args.place c.args.function (all_types ts) (numbers_of es)) (ap (map (option_map seen)) c.deref.ensures.value ∙ (rw c.without_sets.ensures at c.in_ok-parts.ensures.types)))
    c.check_call-ty.ensures)
    c.node.ensures refl c.in_ok-parts.ensures.inputs
    (λ u. shape_call c.args.function c.in_ok-parts.parts.exprs u ∙ ap (flat_call u c.args.function) (rw c.without_sets.ensures at c.in_ok-parts.ensures.exprs))
    refl

pub set_typed-returns-in_err-parts : goal.set_typed-returns-in_err-parts
set_typed-returns-in_err-parts g t c =
    let names = g.C.Naming.names c.args.scope.now in
    let at = permissions_seen c.args.at in
    let es = trees_of (map plain c.args.elements.now) in
    stopped c.from_residual.result c.in_err-parts.field-0.0 (typing names at (set c.args.place es)) _ true _ c.from_residual.ensures.1
    (ends c.in_err-parts.field-0.0 (tree_checks names at es) (set_step c.args.place at (all_types (tree_types names at es))).checks c.in_err-parts.ensures.refused)

pub set_typed-returns : goal.set_typed-returns
set_typed-returns g t c =
    let names = g.C.Naming.names c.args.scope.now in
    let leaf = g.C.Naming.leaves c.args.scope.now in
    let at = permissions_seen c.args.at in
    let es = trees_of (map plain c.args.elements.now) in
    node_ends (typing names at (set c.args.place es)) c.check_set-ty.result (OfShape.Set c.in_ok-parts.parts.exprs) true true c.in_ok-parts.parts.reaches_input (trees_reach names es)
    (λ u. flat_set u (flat_trees names leaf at c.args.under es)) _ c.node.result
    (over c.check_set-ty.result (tree_checks names at es)
    (set_step c.args.place at (all_types (map (option_map seen) c.deref.result.now)))
    (set_step c.args.place at (all_types (tree_types names at es)))
    c.in_ok-parts.ensures.passes
    (ap (λ ts. set_step c.args.place at (all_types ts)) (ap (map (option_map seen)) c.deref.ensures.value ∙ c.in_ok-parts.ensures.types))
    c.check_set-ty.ensures)
    c.node.ensures refl c.in_ok-parts.ensures.inputs
    (λ u. shape_set c.in_ok-parts.parts.exprs u ∙ ap (flat_set u) c.in_ok-parts.ensures.exprs)
    refl

pub case_typed-returns-in_err-cases : goal.case_typed-returns-in_err-cases
case_typed-returns-in_err-cases g t c =
    let names = g.C.Naming.names c.args.scope.now in
    let at = permissions_seen c.args.at in
    let bs = branches_of (map plain_branch c.args.branches.now) in
    stopped c.from_residual.result c.in_err-cases.field-0.0 (typing names at (cases c.args.place bs)) _ (has_set bs) _ c.from_residual.ensures.1
    (ends c.in_err-cases.field-0.0 (branch_checks names at bs) (branches_step c.args.place (all_types (condition_types names (single at) bs)) (all_types (value_types names at bs []))).checks c.in_err-cases.ensures.refused)

pub case_typed-returns : goal.case_typed-returns
case_typed-returns g t c =
    let names = g.C.Naming.names c.args.scope.now in
    let leaf = g.C.Naming.leaves c.args.scope.now in
    let at = permissions_seen c.args.at in
    let bs = branches_of (map plain_branch c.args.branches.now) in
    let conditions = map (option_map seen) c.in_ok-cases.cases.types.conditions.items in
    let values = map (option_map seen) c.in_ok-cases.cases.types.values.items in
    node_ends (typing names at (cases c.args.place bs)) c.check_branches-ty.result (OfShape.Case c.in_ok-cases.cases.branches) c.in_ok-cases.cases.has_set (has_set bs) c.in_ok-cases.cases.reaches_input (branches_reach names bs)
    (λ u. flat_cases u (flat_branches names leaf at c.args.under bs)) _ c.node.result
    (over c.check_branches-ty.result (branch_checks names at bs)
    (branches_step c.args.place (all_types conditions) (all_types values))
    (branches_step c.args.place (all_types (condition_types names (single at) bs)) (all_types (value_types names at bs [])))
    c.in_ok-cases.ensures.passes
    (ap (λ ts. branches_step c.args.place (all_types ts) (all_types values)) c.in_ok-cases.ensures.conditions
    ∙ ap (λ ts. branches_step c.args.place (all_types (condition_types names (single at) bs)) (all_types ts)) c.in_ok-cases.ensures.values)
    c.check_branches-ty.ensures)
    c.node.ensures c.in_ok-cases.ensures.set c.in_ok-cases.ensures.inputs
    (λ u. shape_case c.in_ok-cases.cases.branches u ∙ ap (flat_cases u) c.in_ok-cases.ensures.branches)
    refl

pub choice_typed-returns-in_err-x : goal.choice_typed-returns-in_err-x
choice_typed-returns-in_err-x g t c bs k =
    let names = g.C.Naming.names c.args.scope.now in
    let at = permissions_seen c.args.at in
    let e = plain c.args.last.now in
    stopped c.from_residual.result c.in_err-x.field-0.0 (typing names at (choice c.args.place bs e)) _ _ _ c.from_residual.ensures.1
    (last_stops names at c.args.place bs e (Err c.in_err-x.field-0.0) c.in_err-x.field-0.0 refl k.passes c.in_err-x.ensures)

pub choice_typed-returns : goal.choice_typed-returns
choice_typed-returns g t c bs k =
    let names = g.C.Naming.names c.args.scope.now in
    let leaf = g.C.Naming.leaves c.args.scope.now in
    let at = permissions_seen c.args.at in
    let e = plain c.args.last.now in
    let conditions = c.args.cases.types.conditions.items in
    let whole : Ends c.check_branches-ty.result (branches_step c.args.place (all_types (map (option_map seen) conditions)) (all_types (map (option_map seen) c.push.new.self.items))) = c.check_branches-ty.ensures in
    node_ends (typing names at (choice c.args.place bs e)) c.check_branches-ty.result (OfShape.Choice c.args.cases.branches c.in_ok-inner.inner) c.either-is_set.result _ c.either-reaches_input.result _
    (λ u. flat_choice u (flat_branches names leaf at c.args.under bs) (flat_tree names leaf at c.args.under e)) _ c.node.result
    (choice_goes names at c.args.place bs e c.check_branches-ty.result conditions c.args.cases.types.values.items c.in_ok-x.x.ty k.passes k.conditions k.values c.in_ok-x.ensures.0 (rw c.in_ok-push.ensures.items at whole))
    c.node.ensures (c.either-is_set.ensures ∙ ap (λ b. b || c.in_ok-x.x.is_set) k.set ∙ ap (λ b. has_set bs || b) c.in_ok-x.ensures.2)
    (c.either-reaches_input.ensures ∙ ap (λ b. b || c.in_ok-x.x.reaches_input) k.inputs ∙ ap (λ b. branches_reach names bs || b) c.in_ok-x.ensures.3)
    (λ u. shape_choice c.args.cases.branches c.in_ok-inner.inner u ∙ ap (λ (v : _). flat_choice u (flat_branches_of (map plain_flat_branch c.args.cases.branches.items)) (plain_flat v)) c.in_ok-inner.ensures.ok
    ∙ ap (λ v. flat_choice u v (plain_flat c.in_ok-x.x.expr)) k.branches ∙ ap (flat_choice u (flat_branches names leaf at c.args.under bs)) c.in_ok-x.ensures.1)
    refl

-- ---- chains

pub rest_typed-returns-then-is_from_right-clause-types : goal.rest_typed-returns-then-is_from_right-clause-types
rest_typed-returns-then-is_from_right-clause-types g t c f h =
    right_goes (g.C.Naming.names c.args.scope.now) (permissions_seen c.args.at) c.args.place f (links_of (map plain_link c.args.links.now)) (mapped type_of_rest c.implications_typed.result)
    (option_map seen c.args.first) (sym c.is_from_right.ensures ∙ c.if-is_from_right.true) h (rw c.without_sets.ensures at c.implications_typed.ensures.types)

pub rest_typed-returns-then-is_from_right-clause-links : goal.rest_typed-returns-then-is_from_right-clause-links
rest_typed-returns-then-is_from_right-clause-links g t c =
    let names = g.C.Naming.names c.args.scope.now in
    let leaf = g.C.Naming.leaves c.args.scope.now in
    let ls = links_of (map plain_link c.args.links.now) in
    subst (λ (z : FlatLinks). IfOk c.implications_typed.result (λ r. flat_links_of (map plain_flat_link r.links.items) ≡ z)) (right_chain names leaf (permissions_seen c.args.at) c.args.under ls (sym c.is_from_right.ensures ∙ c.if-is_from_right.true))
    (rw c.without_sets.ensures at c.implications_typed.ensures.links)

pub rest_typed-returns-else-is_from_right-clause-types : goal.rest_typed-returns-else-is_from_right-clause-types
rest_typed-returns-else-is_from_right-clause-types g t c f h =
    left_goes (g.C.Naming.names c.args.scope.now) (permissions_seen c.args.at) c.args.place f (links_of (map plain_link c.args.links.now)) (mapped type_of_rest c.fronts_typed.result)
    (option_map seen c.args.first) (sym c.is_from_right.ensures ∙ c.if-is_from_right.false) h (rw c.first_standing.ensures at c.fronts_typed.ensures.types)

pub implications_typed-returns-in_err-operands-clause-types : goal.implications_typed-returns-in_err-operands-clause-types
implications_typed-returns-in_err-operands-clause-types g t c =
    let names = g.C.Naming.names c.args.scope.now in
    let at = permissions_seen c.args.at in
    let ls = links_of (map plain_link c.args.links.now) in
    rest_stops (mapped type_of_rest c.from_residual.result) c.in_err-operands.field-0.0 (link_checks names at ls)
    (implies_step c.args.place (all_types (option_map seen c.args.first ∷ link_types names at ls))) (err_mapped type_of_rest c.from_residual.result c.in_err-operands.field-0.0 c.from_residual.ensures.1) c.in_err-operands.ensures.refused

pub implications_typed-returns-in_err-ty-clause-types : goal.implications_typed-returns-in_err-ty-clause-types
implications_typed-returns-in_err-ty-clause-types g t c =
    let names = g.C.Naming.names c.args.scope.now in
    let at = permissions_seen c.args.at in
    let ls = links_of (map plain_link c.args.links.now) in
    handed (mapped type_of_rest c.from_residual-in_err-ty.result) c.in_err-ty.field-0.0 (implications_typing names at c.args.place (option_map seen c.args.first) ls)
    (err_mapped type_of_rest c.from_residual-in_err-ty.result c.in_err-ty.field-0.0 c.from_residual-in_err-ty.ensures.1)
    (over (Err c.in_err-ty.field-0.0) (link_checks names at ls)
    (implies_step c.args.place (all_types (map (option_map seen) c.deref.result.now)))
    (implies_step c.args.place (all_types (option_map seen c.args.first ∷ link_types names at ls)))
    c.in_ok-operands.ensures.passes
    (ap (λ ts. implies_step c.args.place (all_types ts)) (ap (map (option_map seen)) c.deref.ensures.value ∙ c.in_ok-operands.ensures.types))
    c.in_err-ty.ensures)

pub implications_typed-returns-clause-types : goal.implications_typed-returns-clause-types
implications_typed-returns-clause-types g t c =
    let names = g.C.Naming.names c.args.scope.now in
    let at = permissions_seen c.args.at in
    let ls = links_of (map plain_link c.args.links.now) in
    over (Ok c.in_ok-ty.ty) (link_checks names at ls)
    (implies_step c.args.place (all_types (map (option_map seen) c.deref.result.now)))
    (implies_step c.args.place (all_types (option_map seen c.args.first ∷ link_types names at ls)))
    c.in_ok-operands.ensures.passes
    (ap (λ ts. implies_step c.args.place (all_types ts)) (ap (map (option_map seen)) c.deref.ensures.value ∙ c.in_ok-operands.ensures.types))
    c.in_ok-ty.ensures

-- ---- loops over operands

pub operands_typed-returns-in_err-x-clause-refused : goal.operands_typed-returns-in_err-x-clause-refused
operands_typed-returns-in_err-x-clause-refused g t c =
    let names = g.C.Naming.names c.args.scope.now in
    let at = permissions_seen c.args.at in
    let s = taken c.args.links.now c.loop-link.link-index c.link-item.result c.loop-link-test.true c.link-item.is in
    rest_refuses c.from_residual-in_err-x.result c.in_err-x.field-0.0 (first_failing (link_checks names at (links_of (map plain_link c.args.links.now)))) c.from_residual-in_err-x.ensures.1
    (links_end names at c.args.links.now (drop (c.loop-link.link-index + 1) c.args.links.now) c.link-item.result c.loop-link.link-index c.in_err-x.field-0.0 s
    c.loop-link.invariant.passes c.in_err-x.ensures)

pub operands_typed-loop-link-preserved : goal.operands_typed-loop-link-preserved
operands_typed-loop-link-preserved g t c =
    let names = g.C.Naming.names c.args.scope.now in
    let leaf = g.C.Naming.leaves c.args.scope.now in
    let at = permissions_seen c.args.at in
    let xs = c.args.links.now in
    let rest = drop (c.loop-link.link-index + 1) c.args.links.now in
    let s = taken c.args.links.now c.loop-link.link-index c.link-item.result c.loop-link-test.true c.link-item.is in
    record {
      known = links_still (g.C.Naming.knows c.args.scope.now) xs rest c.link-item.result c.loop-link.link-index s c.loop-link.invariant.known;
      passes = links_go names at xs rest c.link-item.result c.loop-link.link-index (option_map seen c.in_ok-x.x.ty) s c.loop-link.invariant.passes c.in_ok-x.ensures.0;
      types =
          rw c.in_ok-add_operand.ensures.types (
          links_more names at c.loop-link.operands.types.items xs rest c.link-item.result c.loop-link.link-index c.in_ok-x.x.ty
          (option_map seen c.args.first ∷ link_types names at (links_of (map plain_link xs))) s c.loop-link.invariant.types c.in_ok-x.ensures.0
          );
      links = grown (map plain_flat_link c.loop-link.operands.links.items) (map plain_flat_link c.add_operand.new.operands.links.items) (map (same_flat names leaf at c.args.under) xs) (c.link-item.result.op, plain_flat c.in_ok-x.x.expr)
          (same_flat names leaf at c.args.under) c.link-item.result xs rest c.loop-link.link-index c.in_ok-add_operand.ensures.links (ap (λ z. (c.link-item.result.op, z)) c.in_ok-x.ensures.1) s c.loop-link.invariant.links;
      inputs = any_grown (link_reaches names) c.loop-link.operands.reaches_input c.add_operand.new.operands.reaches_input c.in_ok-x.x.reaches_input (list_any (link_reaches names) xs) c.link-item.result xs rest c.loop-link.link-index c.in_ok-add_operand.ensures.inputs c.in_ok-x.ensures.3 s c.loop-link.invariant.inputs;
    }

pub operands_typed-returns-clause-links : goal.operands_typed-returns-clause-links
operands_typed-returns-clause-links g t c =
    let names = g.C.Naming.names c.args.scope.now in
    let leaf = g.C.Naming.leaves c.args.scope.now in
    let at = permissions_seen c.args.at in
    let xs = c.args.links.now in
    ap flat_links_of (finished (map plain_flat_link c.loop-link.operands.links.items) (map (same_flat names leaf at c.args.under) xs) (same_flat names leaf at c.args.under) xs c.loop-link.link-index c.loop-link-test.false c.loop-link.invariant.links)
    ∙ same_are names leaf at c.args.under xs

pub fronts_typed-returns-in_err-x-clause-types : goal.fronts_typed-returns-in_err-x-clause-types
fronts_typed-returns-in_err-x-clause-types g t c =
    let names = g.C.Naming.names c.args.scope.now in
    let at = permissions_seen c.args.at in
    let s = taken c.args.links.now c.loop-link.link-index c.link-item.result c.loop-link-test.true c.link-item.is in
    fronts_end names at c.args.place (option_map seen c.loop-link.whole) c.args.links.now (drop (c.loop-link.link-index + 1) c.args.links.now) c.link-item.result c.loop-link.link-index
    c.in_err-x.field-0.0 (linked names at c.args.place (passed (option_map seen c.args.first)) (links_of (map plain_link c.args.links.now))) (mapped type_of_rest c.from_residual-in_err-x.result) s
    c.loop-link.invariant.same (err_mapped type_of_rest c.from_residual-in_err-x.result c.in_err-x.field-0.0 c.from_residual-in_err-x.ensures.1) (rw c.operand_standing-standing.ensures at c.in_err-x.ensures)

pub fronts_typed-returns-in_err-whole-clause-types : goal.fronts_typed-returns-in_err-whole-clause-types
fronts_typed-returns-in_err-whole-clause-types g t c =
    let names = g.C.Naming.names c.args.scope.now in
    let at = permissions_seen c.args.at in
    let w = option_map seen c.loop-link.whole in
    let y = option_map seen c.in_ok-x.x.ty in
    let s = taken c.args.links.now c.loop-link.link-index c.link-item.result c.loop-link-test.true c.link-item.is in
    let told = rw c.operand_standing-standing.ensures at c.in_ok-x.ensures in
    fronts_stop names at c.args.place w y c.args.links.now (drop (c.loop-link.link-index + 1) c.args.links.now) c.link-item.result c.loop-link.link-index
    c.in_err-whole.field-0.0 (linked names at c.args.place (passed (option_map seen c.args.first)) (links_of (map plain_link c.args.links.now))) (mapped type_of_rest c.from_residual-in_err-whole.result) s
    c.loop-link.invariant.same (err_mapped type_of_rest c.from_residual-in_err-whole.result c.in_err-whole.field-0.0 c.from_residual-in_err-whole.ensures.1) told.0
    (c.in_err-whole.ensures.typing (front_step c.link-item.result.op at c.args.place w y (plain c.link-item.result.operand)) c.check_front.ensures)

pub fronts_typed-loop-link-preserved : goal.fronts_typed-loop-link-preserved
fronts_typed-loop-link-preserved g t c =
    let names = g.C.Naming.names c.args.scope.now in
    let leaf = g.C.Naming.leaves c.args.scope.now in
    let at = permissions_seen c.args.at in
    let xs = c.args.links.now in
    let rest = drop (c.loop-link.link-index + 1) c.args.links.now in
    let w = option_map seen c.loop-link.whole in
    let y = option_map seen c.in_ok-x.x.ty in
    let s = taken c.args.links.now c.loop-link.link-index c.link-item.result c.loop-link-test.true c.link-item.is in
    let told = rw c.operand_standing-standing.ensures at c.in_ok-x.ensures in
    record {
      known = links_still (g.C.Naming.knows c.args.scope.now) xs rest c.link-item.result c.loop-link.link-index s c.loop-link.invariant.known;
      same =
          fronts_go names at c.args.place w y (option_map seen c.in_ok-whole.whole) xs rest c.link-item.result c.loop-link.link-index
          (outcome (linked names at c.args.place (passed (option_map seen c.args.first)) (links_of (map plain_link xs)))) s c.loop-link.invariant.same
          told.0
          (c.in_ok-whole.ensures.typing (front_step c.link-item.result.op at c.args.place w y (plain c.link-item.result.operand)) c.check_front.ensures);
      links = grown (map plain_flat_link c.loop-link.operands.items) (map plain_flat_link c.add_link.new.links.items) (map (link_flat names leaf at c.args.under) xs) (c.link-item.result.op, plain_flat c.in_ok-x.x.expr)
          (link_flat names leaf at c.args.under) c.link-item.result xs rest c.loop-link.link-index c.in_ok-add_link.ensures (ap (λ z. (c.link-item.result.op, z)) told.1) s c.loop-link.invariant.links;
      inputs = any_grown (link_reaches names) c.loop-link.reaches_input c.either-reaches_input.result c.in_ok-x.x.reaches_input (list_any (link_reaches names) xs) c.link-item.result xs rest c.loop-link.link-index c.either-reaches_input.ensures told.3 s c.loop-link.invariant.inputs;
    }

pub fronts_typed-returns-clause-links : goal.fronts_typed-returns-clause-links
fronts_typed-returns-clause-links g t c =
    let names = g.C.Naming.names c.args.scope.now in
    let leaf = g.C.Naming.leaves c.args.scope.now in
    let at = permissions_seen c.args.at in
    let xs = c.args.links.now in
    ap flat_links_of (finished (map plain_flat_link c.loop-link.operands.items) (map (link_flat names leaf at c.args.under) xs) (link_flat names leaf at c.args.under) xs c.loop-link.link-index c.loop-link-test.false c.loop-link.invariant.links)
    ∙ links_are names leaf at c.args.under xs

pub operands_typed-returns-clause-inputs : goal.operands_typed-returns-clause-inputs
operands_typed-returns-clause-inputs g t c =
    let names = g.C.Naming.names c.args.scope.now in
    let xs = c.args.links.now in
    any_finished (link_reaches names) c.loop-link.operands.reaches_input (list_any (link_reaches names) xs) xs c.loop-link.link-index c.loop-link-test.false c.loop-link.invariant.inputs ∙ any_link names xs

pub fronts_typed-returns-clause-inputs : goal.fronts_typed-returns-clause-inputs
fronts_typed-returns-clause-inputs g t c =
    let names = g.C.Naming.names c.args.scope.now in
    let xs = c.args.links.now in
    any_finished (link_reaches names) c.loop-link.reaches_input (list_any (link_reaches names) xs) xs c.loop-link.link-index c.loop-link-test.false c.loop-link.invariant.inputs ∙ any_link names xs

pub parts_typed-returns-in_err-x-clause-refused : goal.parts_typed-returns-in_err-x-clause-refused
parts_typed-returns-in_err-x-clause-refused g t c =
    let names = g.C.Naming.names c.args.scope.now in
    let at = permissions_seen c.args.at in
    let s = taken c.args.parts.now c.loop-part.part-index c.part-item.result c.loop-part-test.true c.part-item.is in
    rest_refuses c.from_residual-in_err-x.result c.in_err-x.field-0.0 (first_failing (tree_checks names at (trees_of (map plain c.args.parts.now)))) c.from_residual-in_err-x.ensures.1
    (trees_end names at c.args.parts.now (drop (c.loop-part.part-index + 1) c.args.parts.now) c.part-item.result c.loop-part.part-index c.in_err-x.field-0.0 s
    c.loop-part.invariant.passes c.in_err-x.ensures)

pub parts_typed-loop-part-preserved : goal.parts_typed-loop-part-preserved
parts_typed-loop-part-preserved g t c =
    let names = g.C.Naming.names c.args.scope.now in
    let leaf = g.C.Naming.leaves c.args.scope.now in
    let at = permissions_seen c.args.at in
    let xs = c.args.parts.now in
    let rest = drop (c.loop-part.part-index + 1) c.args.parts.now in
    let s = taken c.args.parts.now c.loop-part.part-index c.part-item.result c.loop-part-test.true c.part-item.is in
    record {
      known = trees_still (g.C.Naming.knows c.args.scope.now) xs rest c.part-item.result c.loop-part.part-index s c.loop-part.invariant.known;
      passes = trees_go names at xs rest c.part-item.result c.loop-part.part-index (option_map seen c.in_ok-x.x.ty) s c.loop-part.invariant.passes c.in_ok-x.ensures.0;
      types =
          rw c.in_ok-add_part.ensures.types (
          trees_more names at c.loop-part.all.types.items xs rest c.part-item.result c.loop-part.part-index c.in_ok-x.x.ty (tree_types names at (trees_of (map plain xs))) s
          c.loop-part.invariant.types c.in_ok-x.ensures.0
          );
      exprs = grown (map plain_flat c.loop-part.all.exprs.items) (map plain_flat c.add_part.new.parts.exprs.items) (map (part_flat names leaf at c.args.under) xs) (plain_flat c.in_ok-x.x.expr)
          (part_flat names leaf at c.args.under) c.part-item.result xs rest c.loop-part.part-index c.in_ok-add_part.ensures.exprs c.in_ok-x.ensures.1 s c.loop-part.invariant.exprs;
      inputs = any_grown (part_reaches names) c.loop-part.all.reaches_input c.add_part.new.parts.reaches_input c.in_ok-x.x.reaches_input (list_any (part_reaches names) xs) c.part-item.result xs rest c.loop-part.part-index c.in_ok-add_part.ensures.inputs c.in_ok-x.ensures.3 s c.loop-part.invariant.inputs;
    }

pub parts_typed-returns-clause-exprs : goal.parts_typed-returns-clause-exprs
parts_typed-returns-clause-exprs g t c =
    let names = g.C.Naming.names c.args.scope.now in
    let leaf = g.C.Naming.leaves c.args.scope.now in
    let at = permissions_seen c.args.at in
    let xs = c.args.parts.now in
    ap flat_trees_of (finished (map plain_flat c.loop-part.all.exprs.items) (map (part_flat names leaf at c.args.under) xs) (part_flat names leaf at c.args.under) xs c.loop-part.part-index c.loop-part-test.false c.loop-part.invariant.exprs)
    ∙ parts_are names leaf at c.args.under xs

pub parts_typed-returns-clause-inputs : goal.parts_typed-returns-clause-inputs
parts_typed-returns-clause-inputs g t c =
    let names = g.C.Naming.names c.args.scope.now in
    let xs = c.args.parts.now in
    any_finished (part_reaches names) c.loop-part.all.reaches_input (list_any (part_reaches names) xs) xs c.loop-part.part-index c.loop-part-test.false c.loop-part.invariant.inputs ∙ any_part names xs

pub branches_typed-returns-in_err-when-clause-refused : goal.branches_typed-returns-in_err-when-clause-refused
branches_typed-returns-in_err-when-clause-refused g t c =
    let names = g.C.Naming.names c.args.scope.now in
    let at = permissions_seen c.args.at in
    let s = taken c.args.branches.now c.loop-branch.branch-index c.branch-item.result c.loop-branch-test.true c.branch-item.is in
    rest_refuses c.from_residual-in_err-when.result c.in_err-when.field-0.0 (first_failing (branch_checks names at (branches_of (map plain_branch c.args.branches.now)))) c.from_residual-in_err-when.ensures.1
    (conditions_end names at c.args.branches.now (drop (c.loop-branch.branch-index + 1) c.args.branches.now) c.branch-item.result c.loop-branch.branch-index c.in_err-when.field-0.0 s
    c.loop-branch.invariant.passes (rw c.without_sets.ensures at c.in_err-when.ensures))

pub branches_typed-returns-in_err-value-clause-refused : goal.branches_typed-returns-in_err-value-clause-refused
branches_typed-returns-in_err-value-clause-refused g t c =
    let names = g.C.Naming.names c.args.scope.now in
    let at = permissions_seen c.args.at in
    let s = taken c.args.branches.now c.loop-branch.branch-index c.branch-item.result c.loop-branch-test.true c.branch-item.is in
    let told = rw c.without_sets.ensures at c.in_ok-when.ensures in
    rest_refuses c.from_residual-in_err-value.result c.in_err-value.field-0.0 (first_failing (branch_checks names at (branches_of (map plain_branch c.args.branches.now)))) c.from_residual-in_err-value.ensures.1
    (values_end names at c.args.branches.now (drop (c.loop-branch.branch-index + 1) c.args.branches.now) c.branch-item.result c.loop-branch.branch-index
    (option_map seen c.in_ok-when.when.ty) c.in_err-value.field-0.0 s c.loop-branch.invariant.passes told.0 c.in_err-value.ensures)

pub branches_typed-typed-requires-in-loop-branch : goal.branches_typed-typed-requires-in-loop-branch
branches_typed-typed-requires-in-loop-branch g t c κs within =
    let knows = g.C.Naming.knows c.args.scope.now in
    let xs = c.args.branches.now in
    let b = c.branch-item.result in
    let rest = drop (c.loop-branch.branch-index + 1) xs in
    let s = taken xs c.loop-branch.branch-index b c.loop-branch-test.true c.branch-item.is in
    (search (rules, branch_lemmas), (within, value_known knows xs rest b c.loop-branch.branch-index s c.loop-branch.invariant.known))

pub branches_typed-loop-branch-preserved : goal.branches_typed-loop-branch-preserved
branches_typed-loop-branch-preserved g t c =
    let names = g.C.Naming.names c.args.scope.now in
    let leaf = g.C.Naming.leaves c.args.scope.now in
    let at = permissions_seen c.args.at in
    let xs = c.args.branches.now in
    let rest = drop (c.loop-branch.branch-index + 1) c.args.branches.now in
    let s = taken c.args.branches.now c.loop-branch.branch-index c.branch-item.result c.loop-branch-test.true c.branch-item.is in
    let told = rw c.without_sets.ensures at c.in_ok-when.ensures in
    record {
      known = branches_still (g.C.Naming.knows c.args.scope.now) xs rest c.branch-item.result c.loop-branch.branch-index s c.loop-branch.invariant.known;
      passes = branches_go names at xs rest c.branch-item.result c.loop-branch.branch-index (option_map seen c.in_ok-when.when.ty) (option_map seen c.in_ok-value.value.ty) s
          c.loop-branch.invariant.passes told.0 c.in_ok-value.ensures.0;
      conditions =
          rw c.in_ok-add_branch.ensures.conditions (
          conditions_more names (single at) c.loop-branch.cases.types.conditions.items xs rest c.branch-item.result c.loop-branch.branch-index c.in_ok-when.when.ty
          (condition_types names (single at) (branches_of (map plain_branch xs))) s c.loop-branch.invariant.conditions told.0
          );
      values =
          rw c.in_ok-add_branch.ensures.values (
          values_more names at c.loop-branch.cases.types.values.items xs rest c.branch-item.result c.loop-branch.branch-index c.in_ok-value.value.ty
          (value_types names at (branches_of (map plain_branch xs)) []) s c.loop-branch.invariant.values c.in_ok-value.ensures.0
          );
      branches = grown (map plain_flat_branch c.loop-branch.cases.branches.items) (map plain_flat_branch c.add_branch.new.cases.branches.items) (map (branch_flat names leaf at c.args.under) xs)
          (plain_flat c.in_ok-when.when.expr, plain_flat c.in_ok-value.value.expr) (branch_flat names leaf at c.args.under) c.branch-item.result xs rest c.loop-branch.branch-index c.in_ok-add_branch.ensures.branches
          (ap (λ z. (z, plain_flat c.in_ok-value.value.expr)) told.1 ∙ ap (λ z. (flat_tree names leaf (single at) c.args.under (plain c.branch-item.result.when), z)) c.in_ok-value.ensures.1) s c.loop-branch.invariant.branches;
      set = any_grown value_set c.loop-branch.cases.has_set c.add_branch.new.cases.has_set c.in_ok-value.value.is_set (list_any value_set xs) c.branch-item.result xs rest c.loop-branch.branch-index c.in_ok-add_branch.ensures.set c.in_ok-value.ensures.2 s c.loop-branch.invariant.set;
      inputs = any_grown (branch_reaches names) c.loop-branch.cases.reaches_input c.add_branch.new.cases.reaches_input (c.in_ok-when.when.reaches_input || c.in_ok-value.value.reaches_input) (list_any (branch_reaches names) xs) c.branch-item.result xs rest c.loop-branch.branch-index
          c.in_ok-add_branch.ensures.inputs (ap (λ b. b || c.in_ok-value.value.reaches_input) told.3 ∙ ap (λ b. reaches names (plain c.branch-item.result.when) || b) c.in_ok-value.ensures.3) s c.loop-branch.invariant.inputs;
    }

pub branches_typed-returns-clause-branches : goal.branches_typed-returns-clause-branches
branches_typed-returns-clause-branches g t c =
    let names = g.C.Naming.names c.args.scope.now in
    let leaf = g.C.Naming.leaves c.args.scope.now in
    let at = permissions_seen c.args.at in
    let xs = c.args.branches.now in
    ap flat_branches_of (finished (map plain_flat_branch c.loop-branch.cases.branches.items) (map (branch_flat names leaf at c.args.under) xs) (branch_flat names leaf at c.args.under) xs c.loop-branch.branch-index c.loop-branch-test.false c.loop-branch.invariant.branches)
    ∙ branches_are names leaf at c.args.under xs

pub branches_typed-returns-clause-set : goal.branches_typed-returns-clause-set
branches_typed-returns-clause-set g t c =
    let xs = c.args.branches.now in
    any_finished value_set c.loop-branch.cases.has_set (list_any value_set xs) xs c.loop-branch.branch-index c.loop-branch-test.false c.loop-branch.invariant.set ∙ sets_are xs

pub branches_typed-returns-clause-inputs : goal.branches_typed-returns-clause-inputs
branches_typed-returns-clause-inputs g t c =
    let names = g.C.Naming.names c.args.scope.now in
    let xs = c.args.branches.now in
    any_finished (branch_reaches names) c.loop-branch.cases.reaches_input (list_any (branch_reaches names) xs) xs c.loop-branch.branch-index c.loop-branch-test.false c.loop-branch.invariant.inputs ∙ any_branch names xs

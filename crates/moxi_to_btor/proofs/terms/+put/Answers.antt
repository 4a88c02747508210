use Rattle.std.proofs.lemmas.List.{length-map}
use Rattle.std.proofs.Common.{◌≡◌, ◌<◌, ◌++◌, ◌+◌, length, map, drop, slice_index_or, sym, ap, ◌∙◌, subst, arith}
use Rattle.moxi_terms.specs.Tree.{trees_of, variable}
use Rattle.moxi_terms.specs.View.{plain}
use Rattle.moxi_terms.specs.Cost.{cost, costs, cost_upto}
use Rattle.moxi_terms.proofs.Plain.{plain-Apply, plain-Let, plain-Call, terms_step, called_cost, body_of, found_within}
use Rattle.moxi_terms.proofs.ValueLaws.{taken_at, read_at}
use Rattle.moxi_lines.specs.TermLines.{AllBuilt, with_operator}
use Rattle.moxi_to_btor.specs.Terms.{CanPutTerm, CanPutTerms, all_lines_in, call_lines_in, functions_in, lines_in}
use Rattle.moxi_to_btor.proofs.Plain.{plain-Constant, plain-Variable}
use Rattle.moxi_to_btor.proofs.Stepping.{actuals_can, all_made, body_can, call_can, call_is, constant_can_put, first_can, inner_can, inside_call, later_small, made_same, now_small, operands_can, operator_can, rest_can, step_told, values_can}
use Rattle.moxi_to_btor.proofs.terms.+put.Goals as goal

-- ---- calls

pub put_call-put_tree-requires : goal.put_call-put_tree-requires
put_call-put_tree-requires t c =
    let s = c.args.scene.now in
    let all = s.functions.now in
    let fs = functions_in s in
    let n = c.args.n in
    let p = taken_at fs s.upto n c.requires.function c.requires.found in
    let less : n < s.upto = p.1 in
    let within : n < length all = subst (λ k. n < k) (length-map all _) (found_within fs n c.requires.function p.0) in
    let d = c.at.result.now in
    let here : plain (slice_index_or all n d).body ≡ plain d.body = ap (λ f. plain f.body) (sym c.at.ensures) in
    let same : c.requires.function.body ≡ plain d.body = sym (ap (λ f. f.body) (read_at fs n c.requires.function _ p.0)) ∙ body_of all n d within ∙ here in (
      omega (arith, called_cost all s.upto n d less within, ap (cost (cost_upto fs n)) here),
      subst (λ b. CanPutTerm (inside_call s n c.args.places) b c.args.builder.now (plain d.body)) (sym c.new-bound.ensures.items) (body_can s n c.args.builder.now c.args.places (plain d.body) c.requires same),
    )

pub put_call-returns : goal.put_call-returns
put_call-returns t c =
    let s = c.args.scene.now in
    let all = s.functions.now in
    let fs = functions_in s in
    let n = c.args.n in
    let p = taken_at fs s.upto n c.requires.function c.requires.found in
    let within : n < length all = subst (λ k. n < k) (length-map all _) (found_within fs n c.requires.function p.0) in
    let d = c.at.result.now in
    let here : plain (slice_index_or all n d).body ≡ plain d.body = ap (λ f. plain f.body) (sym c.at.ensures) in
    let same : c.requires.function.body ≡ plain d.body = sym (ap (λ f. f.body) (read_at fs n c.requires.function _ p.0)) ∙ body_of all n d within ∙ here in
    made_same c.put_tree.result c.put_tree.new.builder _ _
    (ap (λ b. lines_in (inside_call s n c.args.places) b c.args.builder.now (plain d.body)) c.new-bound.ensures.items ∙ sym (call_is s n c.args.builder.now c.args.places (plain d.body) c.requires same))
    c.put_tree.ensures.line

-- ---- leaves

pub put_tree-put_datum-requires : goal.put_tree-put_datum-requires
put_tree-put_datum-requires t c =
    constant_can_put c.args.scene.now c.args.bound.now.items c.args.builder.now (plain c.args.t.now) c.in-Constant.d c.requires (ap plain c.in-Constant.is ∙ plain-Constant c.in-Constant.d)

pub put_tree-variable_place-requires : goal.put_tree-variable_place-requires
put_tree-variable_place-requires t c =
    later_small c.args.scene.now c.args.bound.now.items c.args.builder.now (plain c.args.t.now) c.in-Variable.v c.requires (ap plain c.in-Variable.is ∙ plain-Variable c.in-Variable.v c.in-Variable.primed ∙ ap (variable c.in-Variable.v) c.if-primed.true)

pub put_tree-variable_place-requires-else-primed :
    goal.put_tree-variable_place-requires-else-primed
put_tree-variable_place-requires-else-primed t c =
    now_small c.args.scene.now c.args.bound.now.items c.args.builder.now (plain c.args.t.now) c.in-Variable.v c.requires (ap plain c.in-Variable.is ∙ plain-Variable c.in-Variable.v c.in-Variable.primed ∙ ap (variable c.in-Variable.v) c.if-primed.false)

-- ---- operators

pub put_tree-put_trees-requires : goal.put_tree-put_trees-requires
put_tree-put_trees-requires t c =
    let s = c.args.scene.now in
    let old = c.args.bound.now.items in
    let e = ap plain c.in-Apply.is ∙ plain-Apply c.in-Apply.op c.in-Apply.terms in
    let same : trees_of (map plain c.deref-in-Apply.result.now) ≡ trees_of (map plain c.in-Apply.terms.items) = ap (λ ts. trees_of (map plain ts)) c.deref-in-Apply.ensures.value in (
      omega (arith, ap (cost (cost_upto (functions_in s) s.upto)) e, ap (costs (cost_upto (functions_in s) s.upto)) same),
      subst (CanPutTerms s old c.args.builder.now) (sym same) (operands_can s old c.args.builder.now (plain c.args.t.now) c.in-Apply.op (trees_of (map plain c.in-Apply.terms.items)) c.requires e),
    )

pub put_tree-put_operator-requires : goal.put_tree-put_operator-requires
put_tree-put_operator-requires t c =
    let s = c.args.scene.now in
    let old = c.args.bound.now.items in
    let lines = c.args.builder.now in
    let new = c.put_trees.new.builder in
    let e = ap plain c.in-Apply.is ∙ plain-Apply c.in-Apply.op c.in-Apply.terms in
    let same : trees_of (map plain c.deref-in-Apply.result.now) ≡ trees_of (map plain c.in-Apply.terms.items) = ap (λ ts. trees_of (map plain ts)) c.deref-in-Apply.ensures.value in
    let got = c.in_ok-places-in-Apply.ensures.lines in
    let all = ap (all_made new) c.deref-in-Apply-2.ensures.value ∙ got ∙ ap (all_lines_in s old lines) same in
    operator_can s old lines (plain c.args.t.now) c.in-Apply.op (trees_of (map plain c.in-Apply.terms.items)) (all_made new c.deref-in-Apply-2.result.now) c.requires e all

pub put_tree-returns-in_ok-places-in-Apply-clause-line :
    goal.put_tree-returns-in_ok-places-in-Apply-clause-line
put_tree-returns-in_ok-places-in-Apply-clause-line t c =
    let s = c.args.scene.now in
    let old = c.args.bound.now.items in
    let lines = c.args.builder.now in
    let new = c.put_trees.new.builder in
    let e = ap plain c.in-Apply.is ∙ plain-Apply c.in-Apply.op c.in-Apply.terms in
    let same : trees_of (map plain c.deref-in-Apply.result.now) ≡ trees_of (map plain c.in-Apply.terms.items) = ap (λ ts. trees_of (map plain ts)) c.deref-in-Apply.ensures.value in
    let got = c.in_ok-places-in-Apply.ensures.lines in
    let all = ap (all_made new) c.deref-in-Apply-2.ensures.value ∙ got ∙ ap (all_lines_in s old lines) same in
    made_same c.put_operator.result c.put_operator.new.builder _ _ (ap (λ (m : AllBuilt). with_operator c.in-Apply.op m.0 m.1) all ∙ sym (ap (lines_in s old lines) e)) c.put_operator.ensures

-- ---- bound values

pub put_tree-put_trees-requires-in-Let : goal.put_tree-put_trees-requires-in-Let
put_tree-put_trees-requires-in-Let t c =
    let s = c.args.scene.now in
    let old = c.args.bound.now.items in
    let e = ap plain c.in-Let.is ∙ plain-Let c.in-Let.field-0 c.in-Let.terms c.in-Let.body in
    let same : trees_of (map plain c.deref-in-Let.result.now) ≡ trees_of (map plain c.in-Let.terms.items) = ap (λ ts. trees_of (map plain ts)) c.deref-in-Let.ensures.value in (
      omega (arith, ap (cost (cost_upto (functions_in s) s.upto)) e, ap (costs (cost_upto (functions_in s) s.upto)) same),
      subst (CanPutTerms s old c.args.builder.now) (sym same) (values_can s old c.args.builder.now (plain c.args.t.now) c.in-Let.field-0 (trees_of (map plain c.in-Let.terms.items)) (plain c.in-Let.body.value) c.requires e),
    )

pub put_tree-put_body-requires : goal.put_tree-put_body-requires
put_tree-put_body-requires t c =
    let s = c.args.scene.now in
    let old = c.args.bound.now.items in
    let lines = c.args.builder.now in
    let new = c.put_trees-in-Let.new.builder in
    let e = ap plain c.in-Let.is ∙ plain-Let c.in-Let.field-0 c.in-Let.terms c.in-Let.body in
    let same : trees_of (map plain c.deref-in-Let.result.now) ≡ trees_of (map plain c.in-Let.terms.items) = ap (λ ts. trees_of (map plain ts)) c.deref-in-Let.ensures.value in
    let got = c.in_ok-more-in-Let.ensures.lines in
    let all = ap (all_made new) c.deref-in-Let-2.ensures.value ∙ got ∙ ap (all_lines_in s old lines) same in
    let body : plain c.deref-in-Let-3.result.now ≡ plain c.in-Let.body.value = ap plain c.deref-in-Let-3.ensures in
    let more = c.deref-in-Let-2.result.now in
    let can = inner_can s old lines (plain c.args.t.now) c.in-Let.field-0 (trees_of (map plain c.in-Let.terms.items)) (plain c.in-Let.body.value) (all_made new more) c.requires e all in (
      omega (arith, ap (cost (cost_upto (functions_in s) s.upto)) e, ap (cost (cost_upto (functions_in s) s.upto)) body),
      subst (λ b. CanPutTerm s (b ++ more) new (plain c.deref-in-Let-3.result.now)) (sym c.in_ok-more-in-Let.ensures.kept) (subst (CanPutTerm s (old ++ more) new) (sym body) can),
    )

pub put_tree-returns-in_ok-more-in-Let-clause-line :
    goal.put_tree-returns-in_ok-more-in-Let-clause-line
put_tree-returns-in_ok-more-in-Let-clause-line t c =
    let s = c.args.scene.now in
    let old = c.args.bound.now.items in
    let lines = c.args.builder.now in
    let new = c.put_trees-in-Let.new.builder in
    let e = ap plain c.in-Let.is ∙ plain-Let c.in-Let.field-0 c.in-Let.terms c.in-Let.body in
    let same : trees_of (map plain c.deref-in-Let.result.now) ≡ trees_of (map plain c.in-Let.terms.items) = ap (λ ts. trees_of (map plain ts)) c.deref-in-Let.ensures.value in
    let got = c.in_ok-more-in-Let.ensures.lines in
    let all = ap (all_made new) c.deref-in-Let-2.ensures.value ∙ got ∙ ap (all_lines_in s old lines) same in
    let body : plain c.deref-in-Let-3.result.now ≡ plain c.in-Let.body.value = ap plain c.deref-in-Let-3.ensures in
    let more = c.deref-in-Let-2.result.now in
    made_same c.put_body.result c.put_body.new.builder _ _
    (ap (λ b. lines_in s (b ++ more) new (plain c.deref-in-Let-3.result.now)) c.in_ok-more-in-Let.ensures.kept ∙ ap (lines_in s (old ++ more) new) body
    ∙ ap (λ (m : AllBuilt). lines_in s (old ++ m.1) m.0 (plain c.in-Let.body.value)) all ∙ sym (ap (lines_in s old lines) e)) c.put_body.ensures.line

-- ---- arguments

pub put_tree-put_trees-requires-in-Call : goal.put_tree-put_trees-requires-in-Call
put_tree-put_trees-requires-in-Call t c =
    let s = c.args.scene.now in
    let old = c.args.bound.now.items in
    let e = ap plain c.in-Call.is ∙ plain-Call c.in-Call.n c.in-Call.terms in
    let same : trees_of (map plain c.deref-in-Call.result.now) ≡ trees_of (map plain c.in-Call.terms.items) = ap (λ ts. trees_of (map plain ts)) c.deref-in-Call.ensures.value in (
      omega (arith, ap (cost (cost_upto (functions_in s) s.upto)) e, ap (costs (cost_upto (functions_in s) s.upto)) same),
      subst (CanPutTerms s old c.args.builder.now) (sym same) (actuals_can s old c.args.builder.now (plain c.args.t.now) c.in-Call.n (trees_of (map plain c.in-Call.terms.items)) c.requires e),
    )

pub put_tree-put_call-requires : goal.put_tree-put_call-requires
put_tree-put_call-requires t c =
    let s = c.args.scene.now in
    let old = c.args.bound.now.items in
    let lines = c.args.builder.now in
    let new = c.put_trees-in-Call.new.builder in
    let e = ap plain c.in-Call.is ∙ plain-Call c.in-Call.n c.in-Call.terms in
    let same : trees_of (map plain c.deref-in-Call.result.now) ≡ trees_of (map plain c.in-Call.terms.items) = ap (λ ts. trees_of (map plain ts)) c.deref-in-Call.ensures.value in
    let got = c.in_ok-places-in-Call.ensures.lines in
    let all = ap (all_made new) c.deref-in-Call-2.ensures.value ∙ got ∙ ap (all_lines_in s old lines) same in (
      omega (arith, ap (cost (cost_upto (functions_in s) s.upto)) e),
      call_can s old lines (plain c.args.t.now) c.in-Call.n (trees_of (map plain c.in-Call.terms.items)) (all_made new c.deref-in-Call-2.result.now) c.requires e all,
    )

pub put_tree-returns-in_ok-places-in-Call-clause-line :
    goal.put_tree-returns-in_ok-places-in-Call-clause-line
put_tree-returns-in_ok-places-in-Call-clause-line t c =
    let s = c.args.scene.now in
    let old = c.args.bound.now.items in
    let lines = c.args.builder.now in
    let new = c.put_trees-in-Call.new.builder in
    let e = ap plain c.in-Call.is ∙ plain-Call c.in-Call.n c.in-Call.terms in
    let same : trees_of (map plain c.deref-in-Call.result.now) ≡ trees_of (map plain c.in-Call.terms.items) = ap (λ ts. trees_of (map plain ts)) c.deref-in-Call.ensures.value in
    let got = c.in_ok-places-in-Call.ensures.lines in
    let all = ap (all_made new) c.deref-in-Call-2.ensures.value ∙ got ∙ ap (all_lines_in s old lines) same in
    made_same c.put_call.result c.put_call.new.builder _ _ (ap (λ (m : AllBuilt). call_lines_in s c.in-Call.n m.0 m.1) all ∙ sym (ap (lines_in s old lines) e)) c.put_call.ensures

-- ---- lists of terms

pub put_trees-put_tree-requires : goal.put_trees-put_tree-requires
put_trees-put_tree-requires t c =
    let s = c.args.scene.now in
    let l = c.loop-t in
    let ts = c.args.terms.now in
    let old = c.args.bound.now.items in
    let x = c.t-item.result in
    let e = terms_step ts l.t-index x c.loop-t-test.true c.t-item.is in
    let rest = trees_of (map plain (drop (l.t-index + 1) ts)) in (
      omega (arith, ap (costs (cost_upto (functions_in s) s.upto)) e, l.invariant.left),
      subst (λ b. CanPutTerm s b l.builder (plain x)) (sym l.invariant.kept) (first_can s old l.builder (trees_of (map plain (drop l.t-index ts))) (plain x) rest l.invariant.can e),
    )

pub put_trees-loop-t-preserved : goal.put_trees-loop-t-preserved
put_trees-loop-t-preserved t c =
    let s = c.args.scene.now in
    let l = c.loop-t in
    let ts = c.args.terms.now in
    let old = c.args.bound.now.items in
    let x = c.t-item.result in
    let e = terms_step ts l.t-index x c.loop-t-test.true c.t-item.is in
    let rest = trees_of (map plain (drop (l.t-index + 1) ts)) in
    let now = trees_of (map plain (drop l.t-index ts)) in
    let got = c.in_ok-place.ensures.line ∙ ap (λ b. lines_in s b l.builder (plain x)) l.invariant.kept in
    record {
      told = step_told s old l.builder c.put_tree.new.builder c.in_ok-place.place l.places.items c.put_place.new.places.items now (plain x) rest got c.in_ok-put_place.ensures e ∙ l.invariant.told;
      kept = c.in_ok-place.ensures.kept ∙ l.invariant.kept;
      can = rest_can s old l.builder now (plain x) rest _ l.invariant.can e got;
      left = omega (arith, ap (costs (cost_upto (functions_in s) s.upto)) e, l.invariant.left);
    }

use Rattle.std.proofs.lemmas.List.{length-map}
use Rattle.std.proofs.Common.{◌≡◌, ◌<◌, [], ◌∷◌, ◌++◌, ◌+◌, length, map, drop, slice_index_or, sym, ap, ◌∙◌, subst, arith, append_assoc, refl}
use Rattle.moxi_terms.specs.Operators.{op_value}
use Rattle.moxi_terms.specs.Applications.{one, two}
use Rattle.moxi_terms.specs.Tree.{apply, trees_of}
use Rattle.moxi_terms.specs.View.{plain, plain_function}
use Rattle.moxi_terms.specs.Value.{at, term_value, term_values, calls_upto}
use Rattle.moxi_terms.specs.Cost.{cost, costs, cost_upto}
use Rattle.moxi_terms.specs.Evaluated.{CanEvaluate, values_in}
use Rattle.moxi_terms.proofs.Plain.{plain-Apply, plain-Let, plain-Call, terms_step, called, called_cost, body_of, found_within, if_ok_same}
use Rattle.moxi_terms.proofs.ValueLaws.{taken_at, read_at}
use Rattle.moxi_terms.proofs.Evaluating.{both, first_of_two, second_of_two, apply_can, let_body, call_can, first_can, rest_can, body_can}
use Rattle.moxi_terms.proofs.evaluate.+value.Goals as goal

pub value-operate-requires : goal.value-operate-requires
value-operate-requires t c =
    let s = c.args.scene.now in
    let fs = map plain_function s.functions.now in
    let values = term_values (calls_upto fs s.upto) (at (values_in s.now)) (at (values_in s.later)) c.args.bound.now.items in
    let e = ap plain c.in-Apply.is ∙ plain-Apply c.in-Apply.op c.in-Apply.terms in
    let got : c.in_ok-args-in_default.args.items ≡ values (trees_of (map plain c.as_slice.result.now)) = c.in_ok-args-in_default.ensures.values in
    apply_can fs s.upto (values_in s.now) (values_in s.later) c.args.bound.now.items (plain c.args.t.now) c.in-Apply.op (trees_of (map plain c.in-Apply.terms.items)) c.deref-in_default.result.now c.requires e
    (c.deref-in_default.ensures.value ∙ got ∙ ap (λ ts. values (trees_of (map plain ts))) c.as_slice.ensures.value)

pub value-returns-in_ok-args-in_default-clause-value : goal.value-returns-in_ok-args-in_default-clause-value
value-returns-in_ok-args-in_default-clause-value t c =
    let s = c.args.scene.now in
    let fs = map plain_function s.functions.now in
    let values = term_values (calls_upto fs s.upto) (at (values_in s.now)) (at (values_in s.later)) c.args.bound.now.items in
    let e = ap plain c.in-Apply.is ∙ plain-Apply c.in-Apply.op c.in-Apply.terms in
    let got : c.in_ok-args-in_default.args.items ≡ values (trees_of (map plain c.as_slice.result.now)) = c.in_ok-args-in_default.ensures.values in
    c.operate.ensures
    ∙ ap (op_value c.in-Apply.op) (c.deref-in_default.ensures.value ∙ got ∙ ap (λ ts. values (trees_of (map plain ts))) c.as_slice.ensures.value)
    ∙ sym (ap (term_value (calls_upto fs s.upto) (at (values_in s.now)) (at (values_in s.later)) c.args.bound.now.items) e)

pub applied_to_one-operate-requires : goal.applied_to_one-operate-requires
applied_to_one-operate-requires t c =
    let s = c.args.scene.now in
    let fs = map plain_function s.functions.now in
    let a = one (plain c.args.a.now) in
    apply_can fs s.upto (values_in s.now) (values_in s.later) c.args.bound.now.items (apply c.args.op a) c.args.op a (c.in_ok-x.x ∷ []) c.requires refl (ap (λ d. d ∷ []) c.in_ok-x.ensures.value)

pub applied_to_two-value-requires : goal.applied_to_two-value-requires
applied_to_two-value-requires t c =
    let s = c.args.scene.now in
    let fs = map plain_function s.functions.now in (
      omega arith,
      first_of_two fs s.upto (values_in s.now) (values_in s.later) c.args.bound.now.items c.args.op (plain c.args.a.now) (plain c.args.b.now) c.requires,
    )

pub applied_to_two-value-requires-2 : goal.applied_to_two-value-requires-2
applied_to_two-value-requires-2 t c =
    let s = c.args.scene.now in
    let fs = map plain_function s.functions.now in
    let b = plain c.args.b.now in
    let kept : c.value.new.bound.items ≡ c.args.bound.now.items = c.in_ok-x.ensures.kept in
    let can = second_of_two fs s.upto (values_in s.now) (values_in s.later) c.args.bound.now.items c.args.op (plain c.args.a.now) b c.requires in (
      omega arith,
      subst (λ bound. CanEvaluate fs s.upto (values_in s.now) (values_in s.later) bound b) (sym kept) can,
    )

pub applied_to_two-operate-requires : goal.applied_to_two-operate-requires
applied_to_two-operate-requires t c =
    let s = c.args.scene.now in
    let fs = map plain_function s.functions.now in
    let old = c.args.bound.now.items in
    let value = term_value (calls_upto fs s.upto) (at (values_in s.now)) (at (values_in s.later)) in
    let a = plain c.args.a.now in
    let b = plain c.args.b.now in
    let kept : c.value.new.bound.items ≡ old = c.in_ok-x.ensures.kept in
    let x : c.in_ok-x.x ≡ value old a = c.in_ok-x.ensures.value in
    let got : c.in_ok-y.y ≡ value c.value.new.bound.items b = c.in_ok-y.ensures.value in
    let y = got ∙ ap (λ bound. value bound b) kept in
    apply_can fs s.upto (values_in s.now) (values_in s.later) old (apply c.args.op (two a b)) c.args.op (two a b) (c.in_ok-x.x ∷ c.in_ok-y.y ∷ []) c.requires refl (both x y)

pub applied_to_two-returns-clause-value : goal.applied_to_two-returns-clause-value
applied_to_two-returns-clause-value t c =
    let s = c.args.scene.now in
    let fs = map plain_function s.functions.now in
    let old = c.args.bound.now.items in
    let value = term_value (calls_upto fs s.upto) (at (values_in s.now)) (at (values_in s.later)) in
    let a = plain c.args.a.now in
    let b = plain c.args.b.now in
    let kept : c.value.new.bound.items ≡ old = c.in_ok-x.ensures.kept in
    let x : c.in_ok-x.x ≡ value old a = c.in_ok-x.ensures.value in
    let got : c.in_ok-y.y ≡ value c.value.new.bound.items b = c.in_ok-y.ensures.value in
    let y = got ∙ ap (λ bound. value bound b) kept in
    c.operate.ensures ∙ ap (op_value c.args.op) (both x y)

pub value-inner_value-requires : goal.value-inner_value-requires
value-inner_value-requires t c =
    let s = c.args.scene.now in
    let fs = map plain_function s.functions.now in
    let old = c.args.bound.now.items in
    let values = term_values (calls_upto fs s.upto) (at (values_in s.now)) (at (values_in s.later)) old in
    let cost_of = cost (cost_upto fs s.upto) in
    let e = ap plain c.in-Let.is ∙ plain-Let c.in-Let.field-0 c.in-Let.terms c.in-Let.body in
    let got : c.in_ok-more-in-Let.more.items ≡ values (trees_of (map plain c.deref-in-Let.result.now)) = c.in_ok-more-in-Let.ensures.values in
    let more = c.deref-in-Let-2.ensures.value ∙ got ∙ ap (λ ts. values (trees_of (map plain ts))) c.deref-in-Let.ensures.value in
    let body : plain c.deref-in-Let-3.result.now ≡ plain c.in-Let.body.value = ap plain c.deref-in-Let-3.ensures in
    let kept : c.values-in-Let.new.bound.items ≡ old = c.in_ok-more-in-Let.ensures.kept in
    let can = let_body fs s.upto (values_in s.now) (values_in s.later) old (plain c.args.t.now) c.in-Let.field-0 (trees_of (map plain c.in-Let.terms.items)) (plain c.in-Let.body.value) c.deref-in-Let-2.result.now c.requires e more in (
      omega (arith, ap cost_of e, ap cost_of body),
      (subst (λ b. CanEvaluate fs s.upto (values_in s.now) (values_in s.later) (b ++ c.deref-in-Let-2.result.now) (plain c.deref-in-Let-3.result.now)) (sym kept)
          (subst (CanEvaluate fs s.upto (values_in s.now) (values_in s.later) (old ++ c.deref-in-Let-2.result.now)) (sym body) can)),
    )

pub value-returns-in_ok-more-in-Let-clause-value : goal.value-returns-in_ok-more-in-Let-clause-value
value-returns-in_ok-more-in-Let-clause-value t c =
    let s = c.args.scene.now in
    let fs = map plain_function s.functions.now in
    let old = c.args.bound.now.items in
    let value = term_value (calls_upto fs s.upto) (at (values_in s.now)) (at (values_in s.later)) in
    let values = term_values (calls_upto fs s.upto) (at (values_in s.now)) (at (values_in s.later)) old in
    let e = ap plain c.in-Let.is ∙ plain-Let c.in-Let.field-0 c.in-Let.terms c.in-Let.body in
    let got : c.in_ok-more-in-Let.more.items ≡ values (trees_of (map plain c.deref-in-Let.result.now)) = c.in_ok-more-in-Let.ensures.values in
    let more = c.deref-in-Let-2.ensures.value ∙ got ∙ ap (λ ts. values (trees_of (map plain ts))) c.deref-in-Let.ensures.value in
    let body : plain c.deref-in-Let-3.result.now ≡ plain c.in-Let.body.value = ap plain c.deref-in-Let-3.ensures in
    let kept : c.values-in-Let.new.bound.items ≡ old = c.in_ok-more-in-Let.ensures.kept in
    if_ok_same c.inner_value.result _ _
    (ap (λ b. value (b ++ c.deref-in-Let-2.result.now) (plain c.deref-in-Let-3.result.now)) kept
    ∙ ap (λ vs. value (old ++ vs) (plain c.deref-in-Let-3.result.now)) more
    ∙ ap (value (old ++ values (trees_of (map plain c.in-Let.terms.items)))) body
    ∙ sym (ap (value old) e))
    c.inner_value.ensures.value

pub value-call-requires : goal.value-call-requires
value-call-requires t c =
    let s = c.args.scene.now in
    let fs = map plain_function s.functions.now in
    let old = c.args.bound.now.items in
    let values = term_values (calls_upto fs s.upto) (at (values_in s.now)) (at (values_in s.later)) old in
    let e = ap plain c.in-Call.is ∙ plain-Call c.in-Call.n c.in-Call.terms in
    let got : c.in_ok-args-in-Call.args.items ≡ values (trees_of (map plain c.deref-in-Call.result.now)) = c.in_ok-args-in-Call.ensures.values in
    let more = c.deref-in-Call-2.ensures.value ∙ got ∙ ap (λ ts. values (trees_of (map plain ts))) c.deref-in-Call.ensures.value in (
      omega (arith, ap (cost (cost_upto fs s.upto)) e),
      call_can fs s.upto (values_in s.now) (values_in s.later) old (plain c.args.t.now) c.in-Call.n (trees_of (map plain c.in-Call.terms.items)) c.deref-in-Call-2.result.now c.requires e more,
    )

pub call-value-requires : goal.call-value-requires
call-value-requires t c =
    let all = c.args.functions.now in
    let fs = map plain_function all in
    let n = c.args.n in
    let p = taken_at fs c.args.upto n c.requires.function c.requires.there in
    let less : n < c.args.upto = p.1 in
    let within : n < length all = subst (λ k. n < k) (length-map all plain_function) (found_within fs n c.requires.function p.0) in
    let d = c.at.result.now in
    let here : plain (slice_index_or all n d).body ≡ plain d.body = ap (λ f. plain f.body) (sym c.at.ensures) in
    let same : c.requires.function.body ≡ plain d.body = sym (ap (λ f. f.body) (read_at fs n c.requires.function _ p.0)) ∙ body_of all n d within ∙ here in (
      omega (arith, called_cost all c.args.upto n d less within, ap (cost (cost_upto fs n)) here),
      subst (λ b. CanEvaluate fs n c.args.args.now c.args.args.now b (plain d.body)) (sym c.new-bound.ensures.items) (body_can fs c.args.upto n c.args.args.now (plain d.body) c.requires same),
    )

pub call-returns : goal.call-returns
call-returns t c =
    let all = c.args.functions.now in
    let fs = map plain_function all in
    let n = c.args.n in
    let args = c.args.args.now in
    let p = taken_at fs c.args.upto n c.requires.function c.requires.there in
    let less : n < c.args.upto = p.1 in
    let within : n < length all = subst (λ k. n < k) (length-map all plain_function) (found_within fs n c.requires.function p.0) in
    let d = c.at.result.now in
    let value = term_value (calls_upto fs n) (at args) (at args) in
    if_ok_same c.value.result _ _
    (ap (λ b. value b (plain d.body)) c.new-bound.ensures.items
    ∙ ap (λ f. value [] (plain f.body)) c.at.ensures
    ∙ sym (called all c.args.upto n args d less within))
    c.value.ensures.value

pub values-value-requires : goal.values-value-requires
values-value-requires t c =
    let s = c.args.scene.now in
    let fs = map plain_function s.functions.now in
    let l = c.loop-t in
    let ts = c.args.terms.now in
    let old = c.args.bound.now.items in
    let x = c.t-item.result in
    let e = terms_step ts l.t-index x c.loop-t-test.true c.t-item.is in
    let rest = trees_of (map plain (drop (l.t-index + 1) ts)) in
    let can = first_can fs s.upto (values_in s.now) (values_in s.later) old (trees_of (map plain (drop l.t-index ts))) (plain x) rest l.invariant.can e in (
      omega (arith, ap (costs (cost_upto fs s.upto)) e, l.invariant.left),
      subst (λ b. CanEvaluate fs s.upto (values_in s.now) (values_in s.later) b (plain x)) (sym l.invariant.kept) can,
    )

pub values-loop-t-preserved : goal.values-loop-t-preserved
values-loop-t-preserved t c =
    let s = c.args.scene.now in
    let fs = map plain_function s.functions.now in
    let l = c.loop-t in
    let ts = c.args.terms.now in
    let old = c.args.bound.now.items in
    let x = c.t-item.result in
    let e = terms_step ts l.t-index x c.loop-t-test.true c.t-item.is in
    let rest = trees_of (map plain (drop (l.t-index + 1) ts)) in
    let value = term_value (calls_upto fs s.upto) (at (values_in s.now)) (at (values_in s.later)) in
    let values = term_values (calls_upto fs s.upto) (at (values_in s.now)) (at (values_in s.later)) old in
    let got : c.in_ok-d.d ≡ value l.bound.items (plain x) = c.in_ok-d.ensures.value in
    let d : c.in_ok-d.d ≡ value old (plain x) = got ∙ ap (λ b. value b (plain x)) l.invariant.kept in
    let put : c.put.new.all.items ≡ l.all.items ++ c.in_ok-d.d ∷ [] = c.in_ok-put.ensures in
    let kept : c.value.new.bound.items ≡ l.bound.items = c.in_ok-d.ensures.kept in
    record {
      told = ap (λ vs. vs ++ values rest) (put ∙ ap (λ d. l.all.items ++ d ∷ []) d) ∙ append_assoc l.all.items (value old (plain x) ∷ []) (values rest)
          ∙ ap (λ us. l.all.items ++ values us) (sym e) ∙ l.invariant.told;
      kept = kept ∙ l.invariant.kept;
      can = rest_can fs s.upto (values_in s.now) (values_in s.later) old (trees_of (map plain (drop l.t-index ts))) (plain x) rest l.invariant.can e;
      left = omega (arith, ap (costs (cost_upto fs s.upto)) e, l.invariant.left);
    }

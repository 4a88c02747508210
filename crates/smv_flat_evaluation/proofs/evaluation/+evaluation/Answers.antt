use Rattle.std.proofs.Common.{◌∙◌, arith, rules, ap, sym}
use Rattle.smv_meaning.specs.Expressions.{Denotation}
use Rattle.smv_operators.specs.View.{seen_value}
use Rattle.smv_flat_evaluation.proofs.Evaluating.{chain_made, left_permits, taken_is_chosen, safe_firsts, depth_firsts}
use Rattle.smv_flat_evaluation.proofs.evaluation.+evaluation.Goals as goal

pub evaluate-returns-in-Chain : goal.evaluate-returns-in-Chain
evaluate-returns-in-Chain t c =
    c.chained.ensures
    ∙ chain_made _ _ _ c.args.e.now c.in-Chain.a c.in-Chain.links (seen_value c.evaluate-first.result) c.deref-in-Chain.result.now c.as_slice.result.now c.in-Chain.is c.evaluate-first.ensures
    (search (rules, c.deref-in-Chain.ensures)) c.as_slice.ensures.value

pub permits-returns-else-is_from_right : goal.permits-returns-else-is_from_right
permits-returns-else-is_from_right t c =
    c.last_permits.ensures
    ∙ left_permits _ _ _ c.args.e.now c.in-Chain.a c.in-Chain.links (seen_value c.args.value.now) (seen_value c.evaluate-first.result) c.permits-has.result
    c.deref-else-is_from_right.result.now c.deref-else-is_from_right-2.result.now c.as_slice-in-Chain.result.now c.as_slice-else-is_from_right.result.now c.is_from_right.result c.in-Chain.is
    c.evaluate-first.ensures (search (rules, c.deref-else-is_from_right.ensures)) c.permits-has.ensures (search (rules, c.deref-else-is_from_right-2.ensures))
    c.as_slice-in-Chain.ensures.value c.as_slice-else-is_from_right.ensures.value c.is_from_right.ensures c.if-is_from_right.false

pub taken-chosen-requires : goal.taken-chosen-requires
taken-chosen-requires t c =
    let split = c.in-Some.ensures.cases.0 in
    let s = safe_firsts _ _ _ c.in-Some.firsts.now c.in-Some.last.now c.args.branches.now split c.requires.safe in
    let d = depth_firsts c.in-Some.firsts.now c.in-Some.last.now c.args.branches.now split in
    (omega arith, (s.0, s.1))

pub taken-returns-in-Some : goal.taken-returns-in-Some
taken-returns-in-Some t c =
    c.chosen.ensures ∙ sym (ap (λ (d : Denotation). d.value) (taken_is_chosen _ _ _ c.in-Some.firsts.now c.in-Some.last.now c.args.branches.now c.in-Some.ensures.cases.0))

pub taken_permits-chosen_permits-requires : goal.taken_permits-chosen_permits-requires
taken_permits-chosen_permits-requires t c =
    let split = c.in-Some.ensures.cases.0 in
    let s = safe_firsts _ _ _ c.in-Some.firsts.now c.in-Some.last.now c.args.branches.now split c.requires.safe in
    let d = depth_firsts c.in-Some.firsts.now c.in-Some.last.now c.args.branches.now split in
    (omega arith, (s.0, s.1))

pub taken_permits-returns-in-Some : goal.taken_permits-returns-in-Some
taken_permits-returns-in-Some t c =
    c.chosen_permits.ensures
    ∙ sym (ap (λ (d : Denotation). d.permits (seen_value c.args.value.now)) (taken_is_chosen _ _ _ c.in-Some.firsts.now c.in-Some.last.now c.args.branches.now c.in-Some.ensures.cases.0))

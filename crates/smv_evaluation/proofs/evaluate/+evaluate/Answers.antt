use Rattle.std.proofs.Common.{arith, rules, ap, ◌∙◌, sym}
use Rattle.smv_operators.specs.View.{seen_value, plain_or}
use Rattle.smv_evaluation.proofs.Evaluating.{left_value, left_permits, taken_is_chosen, safe_firsts, depth_firsts}
use Rattle.smv_evaluation.proofs.evaluate.+evaluate.Goals as goal

pub taken_branch-chosen_branch-requires : goal.taken_branch-chosen_branch-requires
taken_branch-chosen_branch-requires t c =
    let split = c.in-Some.ensures.cases.0 in
    let s = safe_firsts _ _ _ _ c.in-Some.firsts.now c.in-Some.last.now c.args.branches.now split c.requires.safe in
    let d = depth_firsts c.in-Some.firsts.now c.in-Some.last.now c.args.branches.now split in
    (omega arith, (s.0, s.1))

pub taken_branch-returns-in-Some : goal.taken_branch-returns-in-Some
taken_branch-returns-in-Some t c =
    let split = c.in-Some.ensures.cases.0 in
    let d = depth_firsts c.in-Some.firsts.now c.in-Some.last.now c.args.branches.now split in
    let low = c.chosen_branch.ensures.low in
    record {
      value = c.chosen_branch.ensures.value ∙ sym (taken_is_chosen _ _ c.in-Some.firsts.now c.in-Some.last.now c.args.branches.now split);
      low = omega arith;
      safe = c.chosen_branch.ensures.safe;
    }

pub evaluate-returns-in-None-last_front : goal.evaluate-returns-in-None-last_front
evaluate-returns-in-None-last_front t c =
    left_value _ _ c.args.e.now c.in-Chain.a c.in-Chain.links (seen_value c.evaluate-first.result) _ c.deref-in-Chain.result.now c.as_slice.result.now c.as_slice-else-is_from_right.result.now c.is_from_right.result
    c.in-Chain.is c.evaluate-first.ensures (search (rules, c.deref-in-Chain.ensures)) c.as_slice.ensures.value c.as_slice-else-is_from_right.ensures.value c.is_from_right.ensures c.if-is_from_right.false
    (ap (λ o. plain_or o (seen_value c.evaluate-first.result)) (sym c.in-None-last_front.is) ∙ c.last_front.ensures)

pub evaluate-returns-in-Some-last_front : goal.evaluate-returns-in-Some-last_front
evaluate-returns-in-Some-last_front t c =
    c.seen_of-in-Some-last_front.ensures
    ∙ left_value _ _ c.args.e.now c.in-Chain.a c.in-Chain.links (seen_value c.evaluate-first.result) _ c.deref-in-Chain.result.now c.as_slice.result.now c.as_slice-else-is_from_right.result.now c.is_from_right.result
    c.in-Chain.is c.evaluate-first.ensures (search (rules, c.deref-in-Chain.ensures)) c.as_slice.ensures.value c.as_slice-else-is_from_right.ensures.value c.is_from_right.ensures c.if-is_from_right.false
    (ap (λ o. plain_or o (seen_value c.evaluate-first.result)) (sym c.in-Some-last_front.is) ∙ c.last_front.ensures)

pub permits-returns-else-is_from_right : goal.permits-returns-else-is_from_right
permits-returns-else-is_from_right t c =
    left_permits _ _ c.args.e.now c.in-Chain.a c.in-Chain.links (seen_value c.args.value.now) (seen_value c.evaluate-first.result) c.permits-has.result _ c.deref-else-is_from_right.result.now c.deref-else-is_from_right-2.result.now
    c.as_slice-in-Chain.result.now c.as_slice-else-is_from_right.result.now c.is_from_right.result
    c.in-Chain.is c.evaluate-first.ensures (search (rules, c.deref-else-is_from_right.ensures)) c.permits-has.ensures (search (rules, c.deref-else-is_from_right-2.ensures))
    c.as_slice-in-Chain.ensures.value c.as_slice-else-is_from_right.ensures.value c.is_from_right.ensures c.if-is_from_right.false c.last_has.ensures

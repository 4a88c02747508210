use Rattle.std.proofs.Common.{◌+◌, ◌∙◌, ◌∷◌, [], arith, drop, refl, sym, ap, map}
use Rattle.smv_flat.specs.laws.FlatSteps.{drop_item}
use Rattle.smv_flat.specs.FlatTree.{flat_links_of, flat_trees_of}
use Rattle.smv_flat.specs.FlatView.{plain_flat, plain_flat_link}
use Rattle.moxi_terms.specs.Tree.{apply, tree, trees_of}
use Rattle.moxi_terms.specs.View.{plain}
use Rattle.moxi_terms.proofs.Plain.{plain-Apply}
use Rattle.smv_script.specs.Operators.{front_width, function_term, infix_op}
use Rattle.smv_script.specs.Ranges.{joined_excess}
use Rattle.smv_script.specs.Terms.{translation, arguments_of, is_word}
use Rattle.smv_script_terms.specs.Questions.{answered, codes_of}
use Rattle.smv_script_terms.specs.Operands.{answers, case_plain, implied_parts, link_answers, operand_plain}
use Rattle.smv_script_terms.proofs.Depths.{link_low, branch_low, tree_low, firsts_low}
use Rattle.smv_script_terms.proofs.InRange.{link_in_range, branch_in_range, tree_in_range, firsts_in_range, fronts_from, front_in_range}
use Rattle.smv_script_terms.proofs.Steps.{step_on, steps_end}
use Rattle.smv_script_terms.proofs.Translated.{ok_same, back, values_are, union_read, implied_read, joined_read, left_read}
use Rattle.smv_script_terms.proofs.Termed.{choice_made, prefix_made, select_made, call_made, set_made, link_list, link_elements, link_alone, operand_list, operand_elements, operand_alone, case_list, case_elements, case_alone, part_list, folded_on, taken_cases}
use Rattle.smv_script_terms.proofs.terms.+terms.Goals as goal
use Rattle.text_core.proofs.ListLaws.{pushed}

-- ---- parts

pub cases-terms_of-requires : goal.cases-terms_of-requires
cases-terms_of-requires t c =
    let d = branch_low 1 c.args.branches.now c.loop-branch.branch-index c.branch-item.result c.loop-branch-test.true c.branch-item.is in
    let n = branch_low 0 c.args.branches.now c.loop-branch.branch-index c.branch-item.result c.loop-branch-test.true c.branch-item.is in
    let r = branch_in_range c.args.branches.now c.loop-branch.branch-index c.branch-item.result c.loop-branch-test.true c.branch-item.is in
    (omega (arith, d.when), (omega (arith, n.when), omega (arith, r.when)))

pub cases-terms_of-requires-in-loop-branch : goal.cases-terms_of-requires-in-loop-branch
cases-terms_of-requires-in-loop-branch t c =
    let d = branch_low 1 c.args.branches.now c.loop-branch.branch-index c.branch-item.result c.loop-branch-test.true c.branch-item.is in
    let n = branch_low 0 c.args.branches.now c.loop-branch.branch-index c.branch-item.result c.loop-branch-test.true c.branch-item.is in
    let r = branch_in_range c.args.branches.now c.loop-branch.branch-index c.branch-item.result c.loop-branch-test.true c.branch-item.is in
    (omega (arith, d.value), (omega (arith, n.value), omega (arith, r.value)))

pub folded-behind-requires : goal.folded-behind-requires
folded-behind-requires t c =
    let d = link_low 1 c.args.links.now c.loop-link.link-index c.link-item.result c.loop-link-test.true c.link-item.is in
    let n = link_low 0 c.args.links.now c.loop-link.link-index c.link-item.result c.loop-link-test.true c.link-item.is in
    let r = link_in_range c.args.links.now c.loop-link.link-index c.link-item.result c.loop-link-test.true c.link-item.is in
    (omega (arith, d), (omega (arith, n), omega (arith, r)))

pub link_terms-terms_of-requires-in-loop-link : goal.link_terms-terms_of-requires-in-loop-link
link_terms-terms_of-requires-in-loop-link t c =
    let d = link_low 1 c.args.links.now c.loop-link.link-index c.link-item.result c.loop-link-test.true c.link-item.is in
    let n = link_low 0 c.args.links.now c.loop-link.link-index c.link-item.result c.loop-link-test.true c.link-item.is in
    let r = link_in_range c.args.links.now c.loop-link.link-index c.link-item.result c.loop-link-test.true c.link-item.is in
    (omega (arith, d), (omega (arith, n), omega (arith, r)))

pub operands-terms_of-requires : goal.operands-terms_of-requires
operands-terms_of-requires t c =
    let d = link_low 1 c.args.links.now c.loop-link.link-index c.link-item.result c.loop-link-test.true c.link-item.is in
    let n = link_low 0 c.args.links.now c.loop-link.link-index c.link-item.result c.loop-link-test.true c.link-item.is in
    let r = link_in_range c.args.links.now c.loop-link.link-index c.link-item.result c.loop-link-test.true c.link-item.is in
    (omega (arith, d), (omega (arith, n), omega (arith, r)))

pub parts-terms_of-requires : goal.parts-terms_of-requires
parts-terms_of-requires t c =
    let d = tree_low 1 c.args.exprs.now c.loop-e.e-index c.e-item.result c.loop-e-test.true c.e-item.is in
    let n = tree_low 0 c.args.exprs.now c.loop-e.e-index c.e-item.result c.loop-e-test.true c.e-item.is in
    let r = tree_in_range c.args.exprs.now c.loop-e.e-index c.e-item.result c.loop-e-test.true c.e-item.is in
    (omega (arith, d), (omega (arith, n), omega (arith, r)))

pub taken-terms_of-requires : goal.taken-terms_of-requires
taken-terms_of-requires t c =
    let d = firsts_low 1 c.args.branches.now c.in-Some.firsts.now c.in-Some.last.now c.in-Some.ensures.cases.0 in
    let n = firsts_low 0 c.args.branches.now c.in-Some.firsts.now c.in-Some.last.now c.in-Some.ensures.cases.0 in
    let r = firsts_in_range c.args.branches.now c.in-Some.firsts.now c.in-Some.last.now c.in-Some.ensures.cases.0 in
    (omega (arith, d.last), (omega (arith, n.last), omega (arith, r.last)))

pub taken-cases-requires : goal.taken-cases-requires
taken-cases-requires t c =
    let d = firsts_low 1 c.args.branches.now c.in-Some.firsts.now c.in-Some.last.now c.in-Some.ensures.cases.0 in
    let n = firsts_low 0 c.args.branches.now c.in-Some.firsts.now c.in-Some.last.now c.in-Some.ensures.cases.0 in
    let r = firsts_in_range c.args.branches.now c.in-Some.firsts.now c.in-Some.last.now c.in-Some.ensures.cases.0 in
    (omega (arith, d.firsts), (omega (arith, n.firsts), omega (arith, r.firsts)))

-- ---- loops

pub cases-loop-branch-preserved : goal.cases-loop-branch-preserved
cases-loop-branch-preserved t c =
    step_on (case_list c.args.question (codes_of c.args.coding.now) c.args.k) (case_elements c.args.question (codes_of c.args.coding.now) c.args.k)
    (map case_plain c.loop-branch.all.items) (map case_plain c.push.new.self.items) ((plain c.in_ok-when.when, plain c.in_ok-value.value) ∷ []) c.args.branches.now c.loop-branch.branch-index c.branch-item.result _
    (drop_item c.args.branches.now c.loop-branch.branch-index c.branch-item.result c.loop-branch-test.true c.branch-item.is)
    (pushed case_plain c.loop-branch.all.items c.push.new.self.items _ _ c.in_ok-push.ensures.items refl)
    (ap (λ a. (a, plain c.in_ok-value.value) ∷ []) c.in_ok-when.ensures ∙ ap (λ b. ((translation (codes_of c.args.coding.now) (plain_flat c.branch-item.result.when)).term c.args.k, b) ∷ []) c.in_ok-value.ensures
    ∙ case_alone c.args.question (codes_of c.args.coding.now) c.args.k c.branch-item.result)
    c.loop-branch.invariant

pub operands-loop-link-preserved : goal.operands-loop-link-preserved
operands-loop-link-preserved t c =
    step_on (operand_list (codes_of c.args.coding.now) c.args.k) (operand_elements (codes_of c.args.coding.now) c.args.k)
    (map operand_plain c.loop-link.all.items) (map operand_plain c.push.new.self.items) ((c.is_word-words.result, plain c.in_ok-term.term) ∷ []) c.args.links.now c.loop-link.link-index c.link-item.result _
    (drop_item c.args.links.now c.loop-link.link-index c.link-item.result c.loop-link-test.true c.link-item.is)
    (pushed operand_plain c.loop-link.all.items c.push.new.self.items _ _ c.in_ok-push.ensures.items refl)
    (ap (λ a. (a, plain c.in_ok-term.term) ∷ []) c.is_word-words.ensures ∙ ap (λ b. (is_word (plain_flat c.link-item.result.operand), b) ∷ []) c.in_ok-term.ensures
    ∙ operand_alone (codes_of c.args.coding.now) c.args.k c.link-item.result)
    c.loop-link.invariant

pub link_terms-loop-link-preserved : goal.link_terms-loop-link-preserved
link_terms-loop-link-preserved t c =
    step_on (link_list c.args.question (codes_of c.args.coding.now) c.args.k) (link_elements c.args.question (codes_of c.args.coding.now) c.args.k)
    (map plain c.loop-link.all.items) _ (plain c.in_ok-t.t ∷ []) c.args.links.now c.loop-link.link-index c.link-item.result _
    (drop_item c.args.links.now c.loop-link.link-index c.link-item.result c.loop-link-test.true c.link-item.is)
    (pushed plain c.loop-link.all.items c.push-in-loop-link.new.self.items c.in_ok-t.t _ c.in_ok-push-2.ensures.items refl)
    (ap (λ a. a ∷ []) c.in_ok-t.ensures ∙ link_alone c.args.question (codes_of c.args.coding.now) c.args.k c.link-item.result)
    c.loop-link.invariant

pub folded-front_width-next-requires : goal.folded-front_width-next-requires
folded-front_width-next-requires t c =
    let i = c.loop-link.link-index in
    let r = front_in_range c.loop-link.width (drop i c.args.links.now) (drop (i + 1) c.args.links.now) c.link-item.result
    (drop_item c.args.links.now i c.link-item.result c.loop-link-test.true c.link-item.is) c.loop-link.invariant.fronts in
    ap (joined_excess c.link-item.result.op c.loop-link.width) c.word_width.ensures ∙ r.joined

pub folded-joined-requires : goal.folded-joined-requires
folded-joined-requires t c =
    let i = c.loop-link.link-index in
    (front_in_range c.loop-link.width (drop i c.args.links.now) (drop (i + 1) c.args.links.now) c.link-item.result
    (drop_item c.args.links.now i c.link-item.result c.loop-link-test.true c.link-item.is) c.loop-link.invariant.fronts).shift

pub folded-loop-link-preserved : goal.folded-loop-link-preserved
folded-loop-link-preserved t c =
    let i = c.loop-link.link-index in
    let d = drop_item c.args.links.now i c.link-item.result c.loop-link-test.true c.link-item.is in
    record {
      same = folded_on (codes_of c.args.coding.now) c.args.k c.args.links.now i c.link-item.result c.loop-link.tested c.loop-link.width (plain c.loop-link.whole) c.front_width-next.result c.word_width.result
          (plain c.in_ok-term.term) (plain c.in_ok-whole-2.whole) _ c.is_some-named.result d
          c.word_width.ensures c.front_width-next.ensures c.in_ok-term.ensures c.is_some-named.ensures c.in_ok-whole-2.ensures c.loop-link.invariant.same;
      fronts = ap (λ m. fronts_from m (drop (i + 1) c.args.links.now)) (c.front_width-next.ensures ∙ ap (front_width c.link-item.result.op c.loop-link.width) c.word_width.ensures)
          ∙ (front_in_range c.loop-link.width (drop i c.args.links.now) (drop (i + 1) c.args.links.now) c.link-item.result d c.loop-link.invariant.fronts).rest;
    }

-- ---- what is returned

pub parts-returns : goal.parts-returns
parts-returns t c =
    ap trees_of (steps_end (part_list c.args.question (codes_of c.args.coding.now) c.args.k) (map plain c.loop-e.all.items) c.args.exprs.now c.loop-e.e-index _ c.loop-e-test.false refl c.loop-e.invariant)
    ∙ back (answers c.args.question (codes_of c.args.coding.now) c.args.k (flat_trees_of (map plain_flat c.args.exprs.now)))

pub link_terms-returns : goal.link_terms-returns
link_terms-returns t c =
    ap trees_of (steps_end (link_list c.args.question (codes_of c.args.coding.now) c.args.k) (map plain c.loop-link.all.items) c.args.links.now c.loop-link.link-index _ c.loop-link-test.false refl c.loop-link.invariant)
    ∙ ap (tree (answered c.args.question (translation (codes_of c.args.coding.now) (plain_flat c.args.first.now)) c.args.k))
    (back (link_answers c.args.question (codes_of c.args.coding.now) c.args.k (flat_links_of (map plain_flat_link c.args.links.now))))

pub called-returns : goal.called-returns
called-returns t c = ok_same plain c.function_term.result _ _
    (ap (λ a. function_term c.args.coding.now.width c.args.k c.args.function a (trees_of (map plain c.in_ok-terms.terms.items))) c.arguments_of.ensures
    ∙ ap (function_term c.args.coding.now.width c.args.k c.args.function (arguments_of (flat_trees_of (map plain_flat c.args.arguments.now))))
    (c.in_ok-terms.ensures ∙ values_are (codes_of c.args.coding.now) c.args.k (flat_trees_of (map plain_flat c.args.arguments.now))))
    c.function_term.ensures

pub chained-returns-in-Union : goal.chained-returns-in-Union
chained-returns-in-Union t c = ok_same plain c.united.result _ _
    (union_read c.args.question (codes_of c.args.coding.now) c.args.k (plain_flat c.args.first.now) (flat_links_of (map plain_flat_link c.args.links.now)) (sym c.reading_of.ensures ∙ c.in-Union.is))
    c.united.ensures

pub chained-returns-in_ok-value-in-Implied : goal.chained-returns-in_ok-value-in-Implied
chained-returns-in_ok-value-in-Implied t c = ok_same plain c.answer.result _ _
    (implied_read c.args.question (codes_of c.args.coding.now) c.args.k (plain_flat c.args.first.now) (flat_links_of (map plain_flat_link c.args.links.now)) (plain c.in_ok-value-in-Implied.value)
    (sym c.reading_of.ensures ∙ c.in-Implied.is)
    (c.in_ok-value-in-Implied.ensures ∙ ap (λ a. implied_parts a (map operand_plain c.in_ok-operands-in-Implied.operands.items)) c.in_ok-a-in-Implied.ensures
    ∙ ap (implied_parts ((translation (codes_of c.args.coding.now) (plain_flat c.args.first.now)).term c.args.k)) c.in_ok-operands-in-Implied.ensures))
    c.answer.ensures

pub chained-returns-in_ok-terms-in-OneOperator : goal.chained-returns-in_ok-terms-in-OneOperator
chained-returns-in_ok-terms-in-OneOperator t c = ok_same plain c.answer-in-OneOperator.result _ _
    (joined_read c.args.question (codes_of c.args.coding.now) c.args.k (plain_flat c.args.first.now) (flat_links_of (map plain_flat_link c.args.links.now)) c.in-OneOperator.op c.in-OneOperator.words _
    (sym c.reading_of.ensures ∙ c.in-OneOperator.is)
    (plain-Apply c.infix_operator.result c.in_ok-terms-in-OneOperator.terms ∙ ap (λ o. apply o (trees_of (map plain c.in_ok-terms-in-OneOperator.terms.items))) c.infix_operator.ensures ∙ ap (apply (infix_op c.in-OneOperator.op c.in-OneOperator.words)) c.in_ok-terms-in-OneOperator.ensures))
    c.answer-in-OneOperator.ensures

pub chained-returns-in_ok-value-in-Left : goal.chained-returns-in_ok-value-in-Left
chained-returns-in_ok-value-in-Left t c = ok_same plain c.answer-in-Left.result _ _
    (left_read c.args.question (codes_of c.args.coding.now) c.args.k (plain_flat c.args.first.now) (flat_links_of (map plain_flat_link c.args.links.now)) (plain c.in_ok-value-in-Left.value)
    (sym c.reading_of.ensures ∙ c.in-Left.is) c.in_ok-value-in-Left.ensures)
    c.answer-in-Left.ensures

pub taken-returns-in_ok-cases-in-Some : goal.taken-returns-in_ok-cases-in-Some
taken-returns-in_ok-cases-in-Some t c = ok_same plain c.chosen.result _ _
    (taken_cases c.args.question (codes_of c.args.coding.now) c.args.k c.args.branches.now c.in-Some.firsts.now c.in-Some.last.now (map case_plain c.in_ok-cases-in-Some.cases.items) (plain c.in_ok-whole-in-Some.whole)
    c.in-Some.ensures.cases.0 c.in_ok-cases-in-Some.ensures c.in_ok-whole-in-Some.ensures)
    c.chosen.ensures

pub terms_of-returns-in_ok-value-in-Prefix : goal.terms_of-returns-in_ok-value-in-Prefix
terms_of-returns-in_ok-value-in-Prefix t c = ok_same plain c.answer-in-Prefix.result _ _
    (prefix_made c.args.question (codes_of c.args.coding.now) c.args.k c.args.e.now c.deref.result.now c.in-Prefix.sign c.in-Prefix.count c.in-Prefix.operand (plain c.in_ok-value-in-Prefix.value)
    c.in-Prefix.is c.deref.ensures c.in_ok-value-in-Prefix.ensures)
    c.answer-in-Prefix.ensures

pub terms_of-returns-in_ok-value-in-Select : goal.terms_of-returns-in_ok-value-in-Select
terms_of-returns-in_ok-value-in-Select t c = ok_same plain c.answer-in-Select.result _ _
    (select_made c.args.question (codes_of c.args.coding.now) c.args.k c.args.e.now c.deref-in-Select.result.now c.deref-in-Select-2.result.now c.in-Select.operand c.in-Select.high c.in-Select.low c.word_width.result
    (plain c.in_ok-a-in-Select.a) (plain c.in_ok-value-in-Select.value) c.in-Select.is c.deref-in-Select.ensures c.deref-in-Select-2.ensures c.in_ok-a-in-Select.ensures c.word_width.ensures c.in_ok-value-in-Select.ensures)
    c.answer-in-Select.ensures

pub terms_of-returns-in_ok-value-in-Call : goal.terms_of-returns-in_ok-value-in-Call
terms_of-returns-in_ok-value-in-Call t c = ok_same plain c.answer-in-Call.result _ _
    (call_made c.args.question (codes_of c.args.coding.now) c.args.k c.args.e.now c.in-Call.function c.in-Call.arguments c.deref-in-Call.result.now (plain c.in_ok-value-in-Call.value)
    c.in-Call.is c.deref-in-Call.ensures.value c.in_ok-value-in-Call.ensures)
    c.answer-in-Call.ensures

pub terms_of-returns-in-Set : goal.terms_of-returns-in-Set
terms_of-returns-in-Set t c = ok_same plain c.gathered.result _ _
    (set_made c.args.question (codes_of c.args.coding.now) c.args.k c.args.e.now c.in-Set.elements c.deref-in-Set.result.now c.in-Set.is c.deref-in-Set.ensures.value)
    c.gathered.ensures

pub terms_of-returns-in_ok-cases-in-Choice : goal.terms_of-returns-in_ok-cases-in-Choice
terms_of-returns-in_ok-cases-in-Choice t c = ok_same plain c.chosen.result _ _
    (choice_made c.args.question (codes_of c.args.coding.now) c.args.k c.args.e.now c.deref-in-Choice.result.now c.in-Choice.branches c.in-Choice.last c.deref-in-Choice-2.result.now
    (map case_plain c.in_ok-cases-in-Choice.cases.items) (plain c.in_ok-whole-in-Choice.whole) c.in-Choice.is c.deref-in-Choice-2.ensures.value c.deref-in-Choice.ensures
    c.in_ok-cases-in-Choice.ensures c.in_ok-whole-in-Choice.ensures)
    c.chosen.ensures

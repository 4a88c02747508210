use Rattle.std.proofs.Common.{◌∙◌, Bool, ap, subst, sym}
use Rattle.moxi_terms.specs.Tree.{Tree}
use Rattle.moxi_terms.specs.Value.{at}
use Rattle.moxi_scripts.specs.Meeting.{is_true}
use Rattle.moxi_flat.specs.FlatSorts.{IsFlatTruth}
use Rattle.moxi_flat.specs.FlatSystem.{PlainPart}
use Rattle.moxi_instantiate.specs.PlainParts.{plain_part}
use Rattle.moxi_judge.specs.FlatTests.{IsPartOf, free_script, formula_of}
use Rattle.moxi_judge.proofs.Elements.{seen_at}
use Rattle.moxi_judge.proofs.Steps.{all_goes, all_stops}
use Rattle.moxi_judge.proofs.parts.all_true.Goals as goal

pub is_true-requires-clause-truth : goal.is_true-requires-clause-truth
is_true-requires-clause-truth c =
    let part = c.part-item.result in
    subst (IsFlatTruth c.args.system.now) (sym c.of.ensures)
    (seen_at (IsPartOf c.args.system.now) plain_part c.args.parts.now c.loop-part.part-index part part c.requires.sorted c.loop-part-test.true c.part-item.is c.args.formula)

pub returns-then-not-branch : goal.returns-then-not-branch
returns-then-not-branch c =
    let holds : PlainPart → Bool = λ p. is_true (free_script c.args.system.now) (at c.args.now.now) (at c.args.later.now) (formula_of c.args.formula p) in
    all_stops holds plain_part c.args.parts.now c.loop-part.part-index c.part-item.result c.in_ok-is_true.field-0 c.loop-part-test.true c.part-item.is c.loop-part.invariant
    (c.in_ok-is_true.ensures ∙ ap (λ (t : Tree). is_true (free_script c.args.system.now) (at c.args.now.now) (at c.args.later.now) t) c.of.ensures) c.if-not-branch.true

pub loop-part-preserved : goal.loop-part-preserved
loop-part-preserved c =
    let holds : PlainPart → Bool = λ p. is_true (free_script c.args.system.now) (at c.args.now.now) (at c.args.later.now) (formula_of c.args.formula p) in
    all_goes holds plain_part c.args.parts.now c.loop-part.part-index c.part-item.result c.in_ok-is_true.field-0 c.loop-part-test.true c.part-item.is c.loop-part.invariant
    (c.in_ok-is_true.ensures ∙ ap (λ (t : Tree). is_true (free_script c.args.system.now) (at c.args.now.now) (at c.args.later.now) t) c.of.ensures) c.if-not-branch.false

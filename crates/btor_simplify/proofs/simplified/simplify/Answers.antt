use Rattle.std.proofs.Common.{List, length, subst, ◌∙◌, ap}
use Rattle.btor_tree.specs.declared.lines.Line.{Line}
use Rattle.btor_tree.specs.Fits.{IsWellFormed}
use Rattle.btor_simplify.specs.Marks.{AreMarks}
use Rattle.btor_simplify.specs.Order.{IsOrder, HaveMarkedMoved, order_upto}
use Rattle.btor_simplify.specs.Written.{IsWritten}
use Rattle.btor_simplify.proofs.Extents.{ok_two}
use Rattle.btor_simplify.proofs.Images.{keeps_words}
use Rattle.btor_simplify.proofs.Witnesses.{keeps_witnesses}
use Rattle.btor_simplify.proofs.Distinct.{no_two_same}
use Rattle.btor_simplify.proofs.Unfit.{no_rule}
use Rattle.btor_simplify.proofs.Runs.{keeps_runs}
use Rattle.btor_simplify.proofs.Normality.{normal}
use Rattle.btor_simplify.proofs.Unchanged.{unchanged}
use Rattle.btor_simplify.proofs.Single.{one_simplified}
use Rattle.btor_simplify.specs.Simplified.{IsSimplified}
use Rattle.btor_simplify.proofs.Whole.{known, fewer, numbered, keeps_lines}
use Rattle.btor_simplify.proofs.simplified.simplify.Goals as goal

whole : (c : goal.After-drop-fates-2) (new : List Line) → IsWritten c.args.nodes.now c.deref-4.result.now c.in_ok-order.order.places.items c.in_ok-order.order.moved.items (length c.in_ok-order.order.places.items) new → IsWellFormed new → IsSimplified c.args.nodes.now new
whole c new w fits =
    let lines = c.args.nodes.now in
    let n = length lines in
    let order = c.in_ok-order.order in
    record {
      fates = c.in_ok-fates.fates.items;
      marks = c.in_ok-marks.marks.items;
      places = order.places.items;
      moved = order.moved.items;
      known = known lines c.in_ok-fates.fates.items c.are_well_formed.ensures c.in_ok-fates.ensures.fates c.in_ok-fates.ensures.sized;
      marked = subst (λ fs. AreMarks lines fs 0 c.in_ok-marks.marks.items) c.deref.ensures.value c.in_ok-marks.ensures;
      order = subst (λ fs. IsOrder lines fs n order.places.items order.moved.items) c.deref-2.ensures.value c.in_ok-order.ensures.order;
      placed = c.in_ok-order.ensures.placed ∙ ap (λ fs. order_upto lines fs c.deref-3.result.now n) c.deref-2.ensures.value ∙ ap (λ ms. order_upto lines c.in_ok-fates.fates.items ms n) c.deref-3.ensures.value;
      kept = subst (λ ms. HaveMarkedMoved ms n order.moved.items) c.deref-3.ensures.value c.in_ok-order.ensures.moved;
      written = subst (λ fs. IsWritten lines fs order.places.items order.moved.items (length order.places.items) new) c.deref-4.ensures.value w;
      well_formed = fits;
    }

pub returns-clause-fewer : goal.returns-clause-fewer
returns-clause-fewer c = ok_two c.lines_of.result _ _ _ (λ new w f. fewer c.args.nodes.now new (whole c new w f)) c.lines_of.ensures.written c.lines_of.ensures.well_formed

pub returns-clause-numbered : goal.returns-clause-numbered
returns-clause-numbered c = ok_two c.lines_of.result _ _ _ (λ new w f. numbered c.args.nodes.now new (whole c new w f)) c.lines_of.ensures.written c.lines_of.ensures.well_formed

pub returns-clause-lines : goal.returns-clause-lines
returns-clause-lines c = ok_two c.lines_of.result _ _ _ (λ new w f. keeps_lines c.args.nodes.now new (whole c new w f)) c.lines_of.ensures.written c.lines_of.ensures.well_formed

pub returns-clause-words : goal.returns-clause-words
returns-clause-words c = ok_two c.lines_of.result _ _ _ (λ new w f. keeps_words c.args.nodes.now new (whole c new w f)) c.lines_of.ensures.written c.lines_of.ensures.well_formed

pub returns-clause-runs : goal.returns-clause-runs
returns-clause-runs c =
    ok_two c.lines_of.result _ _ _ (λ new w f. keeps_runs c.args.nodes.now new c.are_well_formed.ensures f (keeps_words c.args.nodes.now new (whole c new w f))) c.lines_of.ensures.written c.lines_of.ensures.well_formed

pub returns-clause-witnesses : goal.returns-clause-witnesses
returns-clause-witnesses c =
    ok_two c.lines_of.result _ _ _ (λ new w f. keeps_witnesses c.args.nodes.now new c.are_well_formed.ensures f (keeps_words c.args.nodes.now new (whole c new w f))) c.lines_of.ensures.written c.lines_of.ensures.well_formed

pub returns-clause-distinct : goal.returns-clause-distinct
returns-clause-distinct c = ok_two c.lines_of.result _ _ _ (λ new w f. no_two_same c.args.nodes.now new (whole c new w f)) c.lines_of.ensures.written c.lines_of.ensures.well_formed

pub returns-clause-unfit : goal.returns-clause-unfit
returns-clause-unfit c = ok_two c.lines_of.result _ _ _ (λ new w f. no_rule c.args.nodes.now new (whole c new w f)) c.lines_of.ensures.written c.lines_of.ensures.well_formed

pub returns-clause-simplified : goal.returns-clause-simplified
returns-clause-simplified c = ok_two c.lines_of.result _ _ _ (λ new w f. whole c new w f) c.lines_of.ensures.written c.lines_of.ensures.well_formed

pub returns-clause-normal : goal.returns-clause-normal
returns-clause-normal c = ok_two c.lines_of.result _ _ _ (λ new w f. normal c.args.nodes.now new (whole c new w f)) c.lines_of.ensures.written c.lines_of.ensures.well_formed

pub returns-clause-unchanged : goal.returns-clause-unchanged
returns-clause-unchanged c = λ h. ok_two c.lines_of.result _ _ _ (λ new w f. unchanged c.args.nodes.now new (whole c new w f) h) c.lines_of.ensures.written c.lines_of.ensures.well_formed

pub returns-clause-only : goal.returns-clause-only
returns-clause-only c =
    ok_two c.lines_of.result _ _ _ (λ new w f. λ other h. one_simplified c.args.nodes.now other new h (whole c new w f)) c.lines_of.ensures.written c.lines_of.ensures.well_formed

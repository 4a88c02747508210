use Rattle.std.proofs.Common.{◌+◌, drop, ap, sym, ◌∙◌, arith}
use Rattle.moxi_sexpr.specs.Tree.{all_nodes, plain, plain_forms}
use Rattle.moxi_scripts.specs.declared.parts.Command.TheVariants.{Check}
use Rattle.moxi_scripts.specs.Attributes.{turn_after}
use Rattle.moxi_scripts.specs.Collecting.{also}
use Rattle.moxi_scripts.specs.Labels.{labels_after, labels_failures}
use Rattle.moxi_attributes.specs.Views.{plain_labels}
use Rattle.moxi_attributes.specs.laws.Collecting.{also_end, also_step}
use Rattle.moxi_attributes.proofs.labels.read_labels.Goals as goal
use Rattle.moxi_sexpr.proofs.Counting.{forms_step, forms_end}

pub read_label_at-requires : goal.read_label_at-requires
read_label_at-requires c =
    let l = c.loop-form in
    let e = forms_step c.args.forms.now l.form-index c.form-item.result c.loop-form-test.true c.form-item.is in
    omega (arith, ap all_nodes e, l.invariant.few)

pub loop-form-preserved : goal.loop-form-preserved
loop-form-preserved c =
    let l = c.loop-form in
    let a = c.args in
    let s = a.scope.now in
    let v = a.locals.now in
    let e = forms_step a.forms.now l.form-index c.form-item.result c.loop-form-test.true c.form-item.is in
    let rest = plain_forms (drop (l.form-index + 1) a.forms.now) in
    let after = turn_after Check l.turn (plain c.form-item.result) in
    let got = c.in_ok-read_label_at.ensures in
    record {
      few = omega (arith, ap all_nodes e, l.invariant.few);
      labels = ap (λ t. labels_after s v (plain_labels c.read_label_at.new.ls) t rest) c.turn_after-turn.ensures
          ∙ ap (λ x. labels_after s v x after rest) got.labels ∙ ap (labels_after s v (plain_labels l.ls) l.turn) (sym e) ∙ l.invariant.labels;
      finds = ap (λ t. also c.read_label_at.new.found (labels_failures s v (plain_labels c.read_label_at.new.ls) t rest)) c.turn_after-turn.ensures
          ∙ ap (λ x. also c.read_label_at.new.found (labels_failures s v x after rest)) got.labels
          ∙ also_step _ _ _ _ _ _ got.finds (ap (labels_failures s v (plain_labels l.ls) l.turn) e) l.invariant.finds;
    }

pub returns-clause-labels : goal.returns-clause-labels
returns-clause-labels c =
    let l = c.loop-form in
    sym (ap (labels_after c.args.scope.now c.args.locals.now (plain_labels l.ls) l.turn) (forms_end c.args.forms.now l.form-index c.loop-form-test.false)) ∙ l.invariant.labels

pub returns-clause-finds : goal.returns-clause-finds
returns-clause-finds c =
    let l = c.loop-form in
    also_end _ _ _ (ap (labels_failures c.args.scope.now c.args.locals.now (plain_labels l.ls) l.turn) (forms_end c.args.forms.now l.form-index c.loop-form-test.false)) l.invariant.finds

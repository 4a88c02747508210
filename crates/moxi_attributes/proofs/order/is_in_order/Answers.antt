use Rattle.std.proofs.Common.{◌+◌, drop, sym, ap, ◌∙◌}
use Rattle.moxi_sexpr.specs.Tree.{plain_forms}
use Rattle.moxi_scripts.specs.Lists.{text_entries}
use Rattle.moxi_attributes.proofs.OrderLaws.{text_step}
use Rattle.moxi_attributes.proofs.order.is_in_order.Goals as goal
use Rattle.moxi_sexpr.proofs.Counting.{forms_step, forms_end}

pub loop-form-preserved : goal.loop-form-preserved
loop-form-preserved c h =
    let l = c.loop-form in
    let a = c.args in
    let e = forms_step a.forms.now l.form-index c.form-item.result c.loop-form-test.true c.form-item.is in
    l.invariant (text_step a.lists.now a.command l.turn c.turn_after-turn.result _ (plain_forms (drop (l.form-index + 1) a.forms.now)) _ _ _ e c.turn_after-turn.ensures c.in-Some.ensures h)

pub returns : goal.returns
returns c h =
    let l = c.loop-form in
    let a = c.args in
    l.invariant (ap (text_entries a.lists.now a.command l.turn) (forms_end a.forms.now l.form-index c.loop-form-test.false) ∙ sym (c.is_over.ensures h))

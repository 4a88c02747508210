use Rattle.std.proofs.Common.{◌+◌, drop, ap, ◌∙◌}
use Rattle.moxi_sexpr.specs.Tree.{plain_forms}
use Rattle.moxi_scripts.specs.Collecting.{also}
use Rattle.moxi_scripts.specs.Attributes.{unknown_failures}
use Rattle.moxi_attributes.specs.laws.Collecting.{also_end, also_step}
use Rattle.moxi_attributes.proofs.attributes.test_keywords.Goals as goal
use Rattle.moxi_sexpr.proofs.Counting.{forms_step, forms_end}

pub loop-form-preserved : goal.loop-form-preserved
loop-form-preserved c =
    let l = c.loop-form in
    let a = c.args in
    let e = forms_step a.forms.now l.form-index c.form-item.result c.loop-form-test.true c.form-item.is in
    let rest = plain_forms (drop (l.form-index + 1) a.forms.now) in
    ap (λ turn. also c.test_unknown.new.found (unknown_failures a.command turn rest)) c.turn_after-turn.ensures
    ∙ also_step _ _ _ _ _ _ c.test_unknown.ensures (ap (unknown_failures a.command l.turn) e) l.invariant

pub returns : goal.returns
returns c =
    let l = c.loop-form in
    also_end _ _ _ (ap (unknown_failures c.args.command l.turn) (forms_end c.args.forms.now l.form-index c.loop-form-test.false)) l.invariant

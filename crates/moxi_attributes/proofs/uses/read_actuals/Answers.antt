use Rattle.std.proofs.Common.{◌&&◌, ap, ◌∙◌}
use Rattle.moxi_scripts.specs.Declarations.{are_symbols}
use Rattle.moxi_scripts.specs.Uses.{actuals_failures, actuals_in}
use Rattle.moxi_attributes.specs.laws.Collecting.{also_end, also_step, and_step, list_step}
use Rattle.moxi_attributes.proofs.uses.read_actuals.Goals as goal
use Rattle.moxi_sexpr.proofs.Counting.{forms_step, forms_end}

pub loop-form-preserved : goal.loop-form-preserved
loop-form-preserved c =
    let l = c.loop-form in
    let a = c.args in
    let ls = a.locals.now in
    let e = forms_step a.forms.now l.form-index c.form-item.result c.loop-form-test.true c.form-item.is in
    let got = c.in_ok-symbol.ensures in
    record {
      symbols = and_step _ _ _ _ _ _ (c.both-symbols.ensures ∙ ap (λ b. l.symbols && b) got.symbol) (ap are_symbols e) l.invariant.symbols;
      adds = list_step _ _ _ _ _ _ got.adds (ap (actuals_in ls) e) l.invariant.adds;
      finds = also_step _ _ _ _ _ _ got.finds (ap (actuals_failures ls) e) l.invariant.finds;
    }

pub returns-clause-finds : goal.returns-clause-finds
returns-clause-finds c =
    let l = c.loop-form in
    also_end _ _ _ (ap (actuals_failures c.args.locals.now) (forms_end c.args.forms.now l.form-index c.loop-form-test.false)) l.invariant.finds

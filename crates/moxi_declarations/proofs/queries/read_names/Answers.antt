use Rattle.std.proofs.Common.{◌&&◌, ◌+◌, drop, ap, sym, ◌∙◌}
use Rattle.moxi_sexpr.specs.Tree.{plain_forms}
use Rattle.moxi_scripts.specs.Declarations.{are_symbols}
use Rattle.moxi_attributes.specs.Views.{plain_labels}
use Rattle.moxi_scripts.specs.QueryReading.{names_after, symbols_failures}
use Rattle.moxi_attributes.specs.laws.Collecting.{also_end, also_step, and_step}
use Rattle.moxi_declarations.proofs.queries.read_names.Goals as goal
use Rattle.moxi_sexpr.proofs.Counting.{forms_step, forms_end}

pub loop-form-preserved : goal.loop-form-preserved
loop-form-preserved c =
    let l = c.loop-form in
    let a = c.args in
    let ls = plain_labels a.ls.now in
    let e = forms_step a.forms.now l.form-index c.form-item.result c.loop-form-test.true c.form-item.is in
    let rest = plain_forms (drop (l.form-index + 1) a.forms.now) in
    let got = c.in_ok-symbol.ensures in
    record {
      symbols = and_step _ _ _ _ _ _ (c.both-symbols.ensures ∙ ap (λ b. l.symbols && b) got.symbol) (ap are_symbols e) l.invariant.symbols;
      names = ap (λ q. names_after ls q rest) got.names ∙ ap (names_after ls l.q) (sym e) ∙ l.invariant.names;
      finds = also_step _ _ _ _ _ _ got.finds (ap symbols_failures e) l.invariant.finds;
    }

pub returns-clause-finds : goal.returns-clause-finds
returns-clause-finds c =
    let l = c.loop-form in
    also_end _ _ _ (ap symbols_failures (forms_end c.args.forms.now l.form-index c.loop-form-test.false)) l.invariant.finds

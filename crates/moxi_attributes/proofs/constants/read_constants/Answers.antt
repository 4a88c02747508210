use Rattle.std.proofs.Common.{◌&&◌, ◌+◌, drop, ap, sym, ◌∙◌}
use Rattle.moxi_sexpr.specs.Tree.{plain_forms}
use Rattle.moxi_scripts.specs.Collecting.{also}
use Rattle.moxi_scripts.specs.Declarations.{are_symbols, constants_failures, symbols_in, with_constants}
use Rattle.moxi_attributes.specs.laws.Collecting.{also_end, also_step, and_step, list_step}
use Rattle.moxi_attributes.proofs.constants.read_constants.Goals as goal
use Rattle.moxi_sexpr.proofs.Counting.{forms_step, forms_end}

pub loop-form-preserved : goal.loop-form-preserved
loop-form-preserved c =
    let l = c.loop-form in
    let a = c.args in
    let s = a.scope.now in
    let e = forms_step a.forms.now l.form-index c.form-item.result c.loop-form-test.true c.form-item.is in
    let got = c.in_ok-symbol.ensures in
    let rest = plain_forms (drop (l.form-index + 1) a.forms.now) in
    record {
      symbols = and_step _ _ _ _ _ _ (c.both-symbols.ensures ∙ ap (λ b. l.symbols && b) got.symbol) (ap are_symbols e) l.invariant.symbols;
      adds = list_step _ _ _ _ _ _ got.adds (ap symbols_in e) l.invariant.adds;
      names = ap (λ ns. with_constants s ns rest) got.names ∙ ap (with_constants s l.names) (sym e) ∙ l.invariant.names;
      finds = ap (λ ns. also c.read_constant.new.found (constants_failures s ns rest)) got.names
          ∙ also_step _ _ _ _ _ _ got.finds (ap (constants_failures s l.names) e) l.invariant.finds;
    }

pub returns-clause-finds : goal.returns-clause-finds
returns-clause-finds c =
    let l = c.loop-form in
    also_end _ _ _ (ap (constants_failures c.args.scope.now l.names) (forms_end c.args.forms.now l.form-index c.loop-form-test.false)) l.invariant.finds

use Rattle.std.proofs.Common.{◌+◌, drop, ap, sym, ◌∙◌}
use Rattle.moxi_sexpr.specs.Tree.{plain_forms}
use Rattle.moxi_scripts.specs.Collecting.{also}
use Rattle.moxi_attributes.specs.Views.{plain_labels}
use Rattle.moxi_scripts.specs.QueryReading.{names_with_queries, queries_failures, queries_in}
use Rattle.moxi_attributes.specs.laws.Collecting.{also_end, also_step, list_step}
use Rattle.moxi_declarations.proofs.queries.read_queries_of.Goals as goal
use Rattle.moxi_sexpr.proofs.Counting.{forms_step, forms_end}

pub loop-form-preserved : goal.loop-form-preserved
loop-form-preserved c =
    let l = c.loop-form in
    let a = c.args in
    let ls = plain_labels a.ls.now in
    let e = forms_step a.forms.now l.form-index c.form-item.result c.loop-form-test.true c.form-item.is in
    let rest = plain_forms (drop (l.form-index + 1) a.forms.now) in
    let got = c.in_ok-read_query.ensures in
    record {
      adds = list_step _ _ _ _ _ _ got.adds (ap (queries_in ls) e) l.invariant.adds;
      names = ap (λ ns. names_with_queries ns rest) got.names ∙ ap (names_with_queries l.names) (sym e) ∙ l.invariant.names;
      finds = ap (λ ns. also c.read_query.new.found (queries_failures ls ns a.around rest)) got.names
          ∙ also_step _ _ _ _ _ _ got.finds (ap (queries_failures ls l.names a.around) e) l.invariant.finds;
    }

pub returns-clause-names : goal.returns-clause-names
returns-clause-names c =
    let l = c.loop-form in
    sym (ap (names_with_queries l.names) (forms_end c.args.forms.now l.form-index c.loop-form-test.false)) ∙ l.invariant.names

pub returns-clause-finds : goal.returns-clause-finds
returns-clause-finds c =
    let l = c.loop-form in
    also_end _ _ _ (ap (queries_failures (plain_labels c.args.ls.now) l.names c.args.around) (forms_end c.args.forms.now l.form-index c.loop-form-test.false)) l.invariant.finds

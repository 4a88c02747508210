use Rattle.std.proofs.Common.{◌+◌, ◌++◌, drop, refl, ap, ◌∙◌}
use Rattle.moxi_sexpr.specs.Tree.{plain, plain_forms}
use Rattle.moxi_scripts.specs.declared.parts.Command.TheVariants.{Check}
use Rattle.moxi_scripts.specs.declared.parts.Turn.TheVariants.{AtKeyword}
use Rattle.moxi_scripts.specs.Attributes.{turn_after}
use Rattle.moxi_scripts.specs.Collecting.{also}
use Rattle.moxi_attributes.specs.Views.{plain_labels}
use Rattle.moxi_scripts.specs.QueryReading.{all_queries_failures, queries_after}
use Rattle.moxi_attributes.specs.laws.Collecting.{also_end, also_step, list_step}
use Rattle.moxi_declarations.proofs.queries.read_queries.Goals as goal
use Rattle.moxi_sexpr.proofs.Counting.{forms_step, forms_end}

pub loop-form-init : goal.loop-form-init
loop-form-init c = record {
  adds = refl;
  finds = ap (λ ns. also c.args.found.now (all_queries_failures (plain_labels c.args.ls.now) ns AtKeyword (plain_forms c.args.forms.now))) c.new-names.ensures;
}

pub loop-form-preserved : goal.loop-form-preserved
loop-form-preserved c =
    let l = c.loop-form in
    let a = c.args in
    let ls = plain_labels a.ls.now in
    let e = forms_step a.forms.now l.form-index c.form-item.result c.loop-form-test.true c.form-item.is in
    let rest = plain_forms (drop (l.form-index + 1) a.forms.now) in
    let after = turn_after Check l.turn (plain c.form-item.result) in
    let got = c.in_ok-read_queries_at.ensures in
    record {
      adds = ap (λ t. c.read_queries_at.new.queries ++ queries_after ls t rest) c.turn_after-turn.ensures
          ∙ list_step _ _ _ _ _ _ got.adds (ap (queries_after ls l.turn) e) l.invariant.adds;
      finds = ap (λ t. also c.read_queries_at.new.found (all_queries_failures ls c.read_queries_at.new.names t rest)) c.turn_after-turn.ensures
          ∙ ap (λ ns. also c.read_queries_at.new.found (all_queries_failures ls ns after rest)) got.names
          ∙ also_step _ _ _ _ _ _ got.finds (ap (all_queries_failures ls l.names l.turn) e) l.invariant.finds;
    }

pub returns-clause-finds : goal.returns-clause-finds
returns-clause-finds c =
    let l = c.loop-form in
    also_end _ _ _ (ap (all_queries_failures (plain_labels c.args.ls.now) l.names l.turn) (forms_end c.args.forms.now l.form-index c.loop-form-test.false)) l.invariant.finds

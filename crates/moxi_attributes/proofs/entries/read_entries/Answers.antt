use Rattle.std.proofs.Common.{◌&&◌, ap, ◌∙◌}
use Rattle.moxi_scripts.specs.Entries.{are_entries, entries_failures, entries_of}
use Rattle.moxi_attributes.specs.laws.Collecting.{also_end, also_step, and_step, list_step}
use Rattle.moxi_attributes.proofs.entries.read_entries.Goals as goal
use Rattle.moxi_sexpr.proofs.Counting.{forms_step, forms_end}

pub loop-form-preserved : goal.loop-form-preserved
loop-form-preserved c =
    let l = c.loop-form in
    let a = c.args in
    let e = forms_step a.forms.now l.form-index c.form-item.result c.loop-form-test.true c.form-item.is in
    let got = c.in_ok-entry.ensures in
    record {
      shaped = and_step _ _ _ _ _ _ (c.both-shaped.ensures ∙ ap (λ b. l.shaped && b) got.shaped) (ap are_entries e) l.invariant.shaped;
      adds = list_step _ _ _ _ _ _ got.adds (ap (entries_of a.scope.now) e) l.invariant.adds;
      finds = also_step _ _ _ _ _ _ got.finds (ap (entries_failures a.scope.now a.around) e) l.invariant.finds;
    }

pub returns-clause-finds : goal.returns-clause-finds
returns-clause-finds c =
    let l = c.loop-form in
    let a = c.args in
    also_end _ _ _ (ap (entries_failures a.scope.now a.around) (forms_end a.forms.now l.form-index c.loop-form-test.false)) l.invariant.finds

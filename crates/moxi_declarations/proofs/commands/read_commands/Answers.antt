use Rattle.std.proofs.Common.{◌+◌, ◌≤◌, drop, ap, sym, ◌∙◌, subst, arith}
use Rattle.moxi_sexpr.specs.Tree.{all_nodes, nodes, plain, plain_forms}
use Rattle.moxi_scripts.specs.Collecting.{also}
use Rattle.moxi_scripts.specs.Commands.{commands_failures, reading_after}
use Rattle.moxi_declarations.specs.Sizes.{reading_size}
use Rattle.moxi_declarations.specs.Views.{plain_draft}
use Rattle.moxi_declarations.proofs.SizeLaws.{form_grows}
use Rattle.moxi_attributes.specs.laws.Collecting.{also_end, also_step}
use Rattle.moxi_declarations.proofs.commands.read_commands.Goals as goal
use Rattle.moxi_sexpr.proofs.Counting.{forms_step, forms_end}

pub read_form-requires : goal.read_form-requires
read_form-requires c =
    let l = c.loop-form in
    let a = c.args in
    let e = forms_step a.forms.now l.form-index c.form-item.result c.loop-form-test.true c.form-item.is in
    omega (arith, ap all_nodes e, l.invariant.few)

pub loop-form-preserved : goal.loop-form-preserved
loop-form-preserved c =
    let l = c.loop-form in
    let a = c.args in
    let e = forms_step a.forms.now l.form-index c.form-item.result c.loop-form-test.true c.form-item.is in
    let rest = plain_forms (drop (l.form-index + 1) a.forms.now) in
    let got = c.in_ok-read_form.ensures in
    let grown : reading_size (plain_draft c.read_form.new.draft) ≤ reading_size (plain_draft l.draft) + nodes (plain c.form-item.result) =
    subst (λ r. reading_size r ≤ reading_size (plain_draft l.draft) + nodes (plain c.form-item.result)) (sym got.draft) (form_grows (plain_draft l.draft) (plain c.form-item.result)) in
    record {
      few = omega (arith, ap all_nodes e, l.invariant.few, grown);
      draft = ap (λ r. reading_after r rest) got.draft ∙ ap (reading_after (plain_draft l.draft)) (sym e) ∙ l.invariant.draft;
      finds = ap (λ r. also c.read_form.new.found (commands_failures r rest)) got.draft
          ∙ also_step _ _ _ _ _ _ got.finds (ap (commands_failures (plain_draft l.draft)) e) l.invariant.finds;
    }

pub returns-clause-draft : goal.returns-clause-draft
returns-clause-draft c =
    let l = c.loop-form in
    sym (ap (reading_after (plain_draft l.draft)) (forms_end c.args.forms.now l.form-index c.loop-form-test.false)) ∙ l.invariant.draft

pub returns-clause-finds : goal.returns-clause-finds
returns-clause-finds c =
    let l = c.loop-form in
    also_end _ _ _ (ap (commands_failures (plain_draft l.draft)) (forms_end c.args.forms.now l.form-index c.loop-form-test.false)) l.invariant.finds

use Rattle.std.proofs.Common.{◌+◌, ◌++◌, drop, refl, ap, ◌∙◌}
use Rattle.moxi_sexpr.specs.Tree.{plain, plain_forms}
use Rattle.moxi_scripts.specs.declared.parts.Turn.TheVariants.{AtKeyword}
use Rattle.moxi_scripts.specs.declared.parts.Command.TheVariants.{System}
use Rattle.moxi_scripts.specs.Attributes.{turn_after}
use Rattle.moxi_scripts.specs.Collecting.{also}
use Rattle.moxi_scripts.specs.Uses.{uses_failures, uses_in}
use Rattle.moxi_attributes.specs.laws.Collecting.{also_end, also_step, list_step}
use Rattle.moxi_attributes.proofs.uses.read_uses.Goals as goal
use Rattle.moxi_sexpr.proofs.Counting.{forms_step, forms_end}

pub loop-form-init : goal.loop-form-init
loop-form-init c = record {
  adds = refl;
  finds = ap (λ ns. also c.args.found.now (uses_failures c.args.locals.now ns AtKeyword (plain_forms c.args.forms.now))) c.new-names.ensures;
}

pub loop-form-preserved : goal.loop-form-preserved
loop-form-preserved c =
    let l = c.loop-form in
    let a = c.args in
    let ls = a.locals.now in
    let e = forms_step a.forms.now l.form-index c.form-item.result c.loop-form-test.true c.form-item.is in
    let rest = plain_forms (drop (l.form-index + 1) a.forms.now) in
    let got = c.in_ok-read_use_at.ensures in
    record {
      adds = ap (λ t. c.read_use_at.new.uses ++ uses_in ls t rest) c.turn_after-turn.ensures
          ∙ list_step _ _ _ _ _ _ got.adds (ap (uses_in ls l.turn) e) l.invariant.adds;
      finds = ap (λ t. also c.read_use_at.new.found (uses_failures ls c.read_use_at.new.names t rest)) c.turn_after-turn.ensures
          ∙ ap (λ ns. also c.read_use_at.new.found (uses_failures ls ns (turn_after System l.turn (plain c.form-item.result)) rest)) got.names
          ∙ also_step _ _ _ _ _ _ got.finds (ap (uses_failures ls l.names l.turn) e) l.invariant.finds;
    }

pub returns-clause-finds : goal.returns-clause-finds
returns-clause-finds c =
    let l = c.loop-form in
    also_end _ _ _ (ap (uses_failures c.args.locals.now l.names l.turn) (forms_end c.args.forms.now l.form-index c.loop-form-test.false)) l.invariant.finds

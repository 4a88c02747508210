use Rattle.std.proofs.Common.{[], refl, sym, subst, ◌∙◌}
use Rattle.smv_text.specs.View.{plain_module}
use Rattle.smv_names.proofs.Walks.{walked}
use Rattle.smv_names.proofs.declarations.declarations_checked.Goals as goal
use Rattle.smv_meaning.specs.Checks.{IsBad}

pub returns-in-Ok : goal.returns-in-Ok
returns-in-Ok c =
    walked c.args.source.now.modules c.in_ok-modules.modules c.args.source.now.end c.len.result (plain_module c.in-Some.own.now) c.new-above.result.items c.in_ok-modules.ensures c.new-above.ensures.items c.len.ensures c.in-Some.ensures
    ∙ (c.in-Ok.ensures.counts [] refl).0

pub returns : goal.returns
returns c = subst (IsBad c.in-Err.end)
    (sym (walked c.args.source.now.modules c.in_ok-modules.modules c.args.source.now.end c.len.result (plain_module c.in-Some.own.now) c.new-above.result.items c.in_ok-modules.ensures c.new-above.ensures.items c.len.ensures c.in-Some.ensures))
    (c.in-Err.ensures.counts [] refl)

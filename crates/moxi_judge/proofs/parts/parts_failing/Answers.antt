use Rattle.std.proofs.Common.{◌≡◌, IfOk, subst}
use Rattle.moxi_scripts.specs.Meeting.{first_failing}
use Rattle.moxi_judge.proofs.Steps.{later_is}
use Rattle.moxi_judge.proofs.parts.parts_failing.Goals as goal

pub returns-else-step-eq0 : goal.returns-else-step-eq0
returns-else-step-eq0 c =
    let e = later_is c.args.system.now c.args.trace.now c.args.step c.index-trace-step.result c.index-trace-step-else-step-eq0.result c.if-step-eq0.false c.requires.there c.index-trace-step.is c.index-trace-step-else-step-eq0.is in
    subst (λ ts. IfOk c.later_failing.result (λ failing. failing ≡ first_failing ts)) e c.later_failing.ensures

use Rattle.std.proofs.Common.{sym, ap, ◌∙◌, subst}
use Rattle.smv_to_moxi.specs.Lifting.{IsStepOf, read_of}
use Rattle.smv_to_moxi.proofs.LiftedSteps.{step_here, mapped_more, mapped_end}
use Rattle.smv_to_moxi.proofs.lift.read_all.Goals as goal

pub read-requires-clause-step : goal.read-requires-clause-step
read-requires-clause-step c =
    subst (IsStepOf c.args.flat.now) (sym c.as_slice.ensures)
    (step_here (IsStepOf c.args.flat.now) c.args.envs.now c.loop-env.env-index c.env-item.result c.requires.steps c.loop-env-test.true c.env-item.is)

pub loop-env-preserved : goal.loop-env-preserved
loop-env-preserved c =
    let read = read_of c.args.part c.args.flat.now in
    mapped_more read c.args.envs.now c.loop-env.env-index c.env-item.result c.loop-env.states c.push.new.self c.in_ok-state.state c.loop-env-test.true c.env-item.is
    c.loop-env.invariant (c.in_ok-state.ensures ∙ ap read c.as_slice.ensures) c.in_ok-push.ensures.ok

pub returns : goal.returns
returns c = mapped_end (read_of c.args.part c.args.flat.now) c.args.envs.now c.loop-env.env-index c.loop-env.states c.loop-env-test.false c.loop-env.invariant

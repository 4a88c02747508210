use Rattle.moxi_lift.specs.Lifted.{lifted}
use Rattle.witness_lift.specs.Lifting.{system_in}
use Rattle.witness_lift.proofs.Breaks.{breaks_answered}
use Rattle.witness_lift.proofs.Lifts.{is_trace}
use Rattle.witness_lift.proofs.lift.lift_smv.Goals as goal

pub lift_run-requires-clause-trace : goal.lift_run-requires-clause-trace
lift_run-requires-clause-trace c = is_trace c.args.chain.now c.args.witness.now (lifted (system_in c.args.chain.now) c.args.witness.now) c.in_ok-accept.ensures.lifted

pub returns-clause-accepted : goal.returns-clause-accepted
returns-clause-accepted c = c.in_ok-accept.ensures.lifted.accepted

pub returns-clause-breaks : goal.returns-clause-breaks
returns-clause-breaks c =
    breaks_answered c.traces_break_invariants.ensures c.args.chain.now c.args.witness.now (lifted (system_in c.args.chain.now) c.args.witness.now) _ c.in_ok-accept.ensures.lifted c.in_ok-lift_run.ensures

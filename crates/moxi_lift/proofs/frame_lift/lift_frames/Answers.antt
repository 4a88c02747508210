use Rattle.moxi_lift.proofs.Answered.{inputs_given, lifted_answered, sorts_given}
use Rattle.moxi_lift.proofs.frame_lift.lift_frames.Goals as goal

pub lifted_steps-requires-clause-sorts : goal.lifted_steps-requires-clause-sorts
lifted_steps-requires-clause-sorts c = sorts_given c.requires.system.0 c.args.scope.now c.args.variables.now c.args.nodes.now c.requires.system.1

pub lifted_steps-requires-clause-inputs : goal.lifted_steps-requires-clause-inputs
lifted_steps-requires-clause-inputs c =
    inputs_given c.requires.system.0 c.args.scope.now c.args.variables.now c.args.nodes.now c.requires.system.1 c.args.witness.now c.requires.witness

pub returns : goal.returns
returns c =
    lifted_answered c.args.scope.now c.args.variables.now c.args.nodes.now c.args.witness.now c.requires.witness c.lifts_meet_queries.ensures c.requires.accepted c.lifted_steps.result c.lifted_steps.ensures

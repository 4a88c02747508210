use Rattle.std.proofs.Common.{subst}
use Rattle.btor_witness.specs.Judging.{judged_btor}
use Rattle.moxi_lift.proofs.Answered.{all_lifted, inputs_given, sorts_given}
use Rattle.moxi_lift.proofs.chain_lift.accept_lines.Goals as goal

pub returns-in-Yes-clause-lifted : goal.returns-in-Yes-clause-lifted
returns-in-Yes-clause-lifted c =
    all_lifted c.args.scope.now c.args.variables.now c.args.nodes.now c.args.witness.now c.requires.witness c.lifts_meet_queries.ensures
    (subst (judged_btor c.args.nodes.now c.args.witness.now) c.in-Yes.is c.in_ok-judge_btor.ensures)

pub returns-in-Yes-clause-sorts : goal.returns-in-Yes-clause-sorts
returns-in-Yes-clause-sorts c = sorts_given c.requires.system.0 c.args.scope.now c.args.variables.now c.args.nodes.now c.requires.system.1

pub returns-in-Yes-clause-inputs : goal.returns-in-Yes-clause-inputs
returns-in-Yes-clause-inputs c =
    inputs_given c.requires.system.0 c.args.scope.now c.args.variables.now c.args.nodes.now c.requires.system.1 c.args.witness.now c.requires.witness

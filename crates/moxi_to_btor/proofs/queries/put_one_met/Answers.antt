use Rattle.moxi_to_btor.proofs.GoalSteps.{one_met_first}
use Rattle.moxi_to_btor.proofs.queries.put_one_met.Goals as goal

pub put_binary-requires : goal.put_binary-requires
put_binary-requires c = one_met_first c.args.builder.now c.args.place c.in-Some.chain.now c.args.before.now c.requires c.in-Some.ensures.value

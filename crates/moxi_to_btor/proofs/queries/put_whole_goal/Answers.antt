use Rattle.std.proofs.Common.{◌∙◌, sym}
use Rattle.moxi_to_btor.proofs.GoalSteps.{query_conditions, query_held}
use Rattle.moxi_to_btor.proofs.queries.put_whole_goal.Goals as goal
use Rattle.moxi_to_btor.proofs.Stepping.{made}

pub put_conditions-requires : goal.put_conditions-requires
put_conditions-requires c =
    let f = c.args.system.now in
    let inputs = c.args.inputs.now in
    let q = c.args.query.now in
    let lines = c.args.builder.now in
    query_conditions f inputs lines q c.requires (sym c.has_conditions.ensures ∙ c.if-has_conditions.true)

pub put_goal-requires : goal.put_goal-requires
put_goal-requires c =
    let f = c.args.system.now in
    let inputs = c.args.inputs.now in
    let q = c.args.query.now in
    let lines = c.args.builder.now in
    query_held f inputs lines q c.requires (made c.put_conditions.new.builder c.in_ok-chain.chain) (sym c.has_conditions.ensures ∙ c.if-has_conditions.true) c.in_ok-chain.ensures

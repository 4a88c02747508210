use Rattle.moxi_to_btor.proofs.VariableSteps.{less_can, limit_can, truth_can}
use Rattle.moxi_to_btor.proofs.variables.put_below.Goals as goal

pub put_constant-requires : goal.put_constant-requires
put_constant-requires c = limit_can c.args.limit c.args.builder.now c.args.place c.requires

pub put_binary-requires : goal.put_binary-requires
put_binary-requires c = less_can c.args.limit c.args.builder.now c.args.place c.requires (c.put_constant.new.builder, c.in_ok-limit.limit) c.in_ok-limit.ensures

pub put_constraint-requires : goal.put_constraint-requires
put_constraint-requires c =
    truth_can c.args.limit c.args.builder.now c.args.place c.requires (c.put_constant.new.builder, c.in_ok-limit.limit) (c.put_binary.new.builder, c.in_ok-less.less) c.in_ok-limit.ensures c.in_ok-less.ensures

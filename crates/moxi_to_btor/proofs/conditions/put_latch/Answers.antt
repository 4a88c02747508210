use Rattle.moxi_to_btor.proofs.ConditionSteps.{latch_init, latch_open, latch_state}
use Rattle.moxi_to_btor.proofs.conditions.put_latch.Goals as goal

pub put_free-requires : goal.put_free-requires
put_free-requires c = latch_state c.args.builder.now c.args.name.now c.args.value c.requires

pub put_given-requires : goal.put_given-requires
put_given-requires c = latch_init c.args.builder.now c.args.name.now c.args.value c.requires (c.put_free.new.builder, c.in_ok-state.state) c.in_ok-state.ensures c.len.ensures.well_formed

pub returns-clause-next : goal.returns-clause-next
returns-clause-next c =
    latch_open c.args.builder.now c.args.name.now c.args.value c.requires (c.put_free.new.builder, c.in_ok-state.state) c.put_given.new.builder c.in_ok-state.ensures c.in_ok-put_given.ensures c.len.ensures.well_formed

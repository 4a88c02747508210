use Rattle.std.proofs.Common.{arith}
use Rattle.smv_flat.specs.FlatParts.{parts_plain}
use Rattle.smv_judge.proofs.ListedLaws.{items_apart}
use Rattle.smv_judge.proofs.judge.judge_parts.Goals as goal

pub give_label-requires-clause-apart : goal.give_label-requires-clause-apart
give_label-requires-clause-apart g c = items_apart (parts_plain c.args.flat.now) c.requires.model.0 c.requires.model.1

pub give_label-requires-clause-some : goal.give_label-requires-clause-some
give_label-requires-clause-some g c = omega (arith, c.state_count.ensures (parts_plain c.args.flat.now).items)

pub give_label-requires-clause-judgeable : goal.give_label-requires-clause-judgeable
give_label-requires-clause-judgeable g c = c.requires.judgeable c.in_ok-order.order c.in_ok-order.ensures.listed

pub judge_states-requires-clause-some : goal.judge_states-requires-clause-some
judge_states-requires-clause-some g c = omega (arith, c.state_count.ensures (parts_plain c.args.flat.now).items)

pub judge_states-requires-clause-judgeable : goal.judge_states-requires-clause-judgeable
judge_states-requires-clause-judgeable g c = c.requires.judgeable c.in_ok-order.order c.in_ok-order.ensures.listed

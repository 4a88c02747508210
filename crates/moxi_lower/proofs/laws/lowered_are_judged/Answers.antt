use Rattle.moxi_lower.proofs.Accepted.{lowered_are_judged_law}
use Rattle.moxi_lower.proofs.laws.lowered_are_judged.Goals as goal

pub returns : goal.returns
returns c = lowered_are_judged_law c.lowered_are_lifted.ensures c.lowered_are_witnesses.ensures c.lifts_meet_queries.ensures c.yes_where_accepted.ensures

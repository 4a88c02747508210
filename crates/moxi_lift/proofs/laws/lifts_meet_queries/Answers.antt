use Rattle.moxi_lift.proofs.Lifts.{lifts_meet_queries_law}
use Rattle.moxi_lift.proofs.laws.lifts_meet_queries.Goals as goal

pub returns : goal.returns
returns c = lifts_meet_queries_law c.lifts_are_decoded.ensures c.yes_where_accepted.ensures c.bads_are_queries.ensures c.frames_are_traces.ensures

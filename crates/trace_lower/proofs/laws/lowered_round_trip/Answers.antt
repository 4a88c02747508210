use Rattle.trace_lower.proofs.Back.{lowered_round_trip_law}
use Rattle.trace_lower.proofs.laws.lowered_round_trip.Goals as goal

pub returns : goal.returns
returns c = lowered_round_trip_law c.yes_is_run.ensures c.lowered_are_lifted.ensures c.values_round_trip.ensures

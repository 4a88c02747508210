use Rattle.smv_script_laws.proofs.ValueLaws.{values_round_trip_law}
use Rattle.smv_script_laws.proofs.term_laws.values_round_trip.Goals as goal

pub returns : goal.returns
returns c = values_round_trip_law

use Rattle.smv_script_laws.proofs.ValueLaws.{data_round_trip_law}
use Rattle.smv_script_laws.proofs.term_laws.data_round_trip.Goals as goal

pub returns : goal.returns
returns c = data_round_trip_law

use Rattle.moxi_lines.proofs.CodeLaws.{comes_back}
use Rattle.moxi_lines.proofs.term_laws.codes_round_trip.Goals as goal

pub returns : goal.returns
returns c = comes_back

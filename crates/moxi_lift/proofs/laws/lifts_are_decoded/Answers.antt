use Rattle.moxi_lift.proofs.Decoded.{lifts_are_decoded_law}
use Rattle.moxi_lift.proofs.laws.lifts_are_decoded.Goals as goal

pub returns : goal.returns
returns c = lifts_are_decoded_law

use Rattle.moxi_lower.proofs.Printed.{lowered_are_read_law}
use Rattle.moxi_lower.proofs.laws.lowered_are_read.Goals as goal

pub returns : goal.returns
returns c = lowered_are_read_law c.lowered_are_witnesses.ensures c.printed_is_read.ensures

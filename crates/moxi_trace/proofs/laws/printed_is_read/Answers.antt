use Rattle.moxi_trace.proofs.Printed as printed
use Rattle.moxi_trace.proofs.laws.printed_is_read.Goals as goal

pub returns : goal.returns
returns c = printed.printed_is_read

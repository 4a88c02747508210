use Rattle.smv_trace.proofs.Told.{printed_reads_back_law}
use Rattle.smv_trace.proofs.laws.printed_reads_back.Goals as goal

pub returns : goal.returns
returns c = printed_reads_back_law

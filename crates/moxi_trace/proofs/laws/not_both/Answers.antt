use Rattle.moxi_trace.proofs.Unique as unique
use Rattle.moxi_trace.proofs.laws.not_both.Goals as goal

pub returns : goal.returns
returns c = unique.not_both

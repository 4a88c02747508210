use Rattle.moxi_trace.proofs.Unique as unique
use Rattle.moxi_trace.proofs.laws.one_response.Goals as goal

pub returns : goal.returns
returns c = unique.one_response

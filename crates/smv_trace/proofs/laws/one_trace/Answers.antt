use Rattle.smv_trace.proofs.Unique as unique
use Rattle.smv_trace.proofs.laws.one_trace.Goals as goal

pub returns : goal.returns
returns c = unique.one_trace

use Rattle.smv_trace.proofs.SmallTraces.{light_reads, count_reads, three_reads}
use Rattle.smv_trace.proofs.laws.small_traces.Goals as goal

pub returns-clause-light : goal.returns-clause-light
returns-clause-light c = light_reads

pub returns-clause-count : goal.returns-clause-count
returns-clause-count c = count_reads

pub returns-clause-three : goal.returns-clause-three
returns-clause-three c = three_reads

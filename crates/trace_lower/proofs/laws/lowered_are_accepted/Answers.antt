use Rattle.trace_lower.proofs.Accepted.{lowered_are_accepted_law}
use Rattle.trace_lower.proofs.laws.lowered_are_accepted.Goals as goal

pub returns : goal.returns
returns c = lowered_are_accepted_law c.yes_is_run.ensures c.scripts_are_valid.ensures c.traces_have_flat_traces.ensures c.lowered_are_witnesses.ensures c.lowered_are_judged.ensures

use Rattle.witness_lift.proofs.Breaks.{breaks}
use Rattle.witness_lift.proofs.lift_laws.traces_break_invariants.Goals as goal

pub returns : goal.returns
returns c = breaks c.scripts_are_valid.ensures c.traces_have_flat_traces.ensures c.runs_are_traces.ensures.decoded c.runs_are_traces.ensures.queries

use Rattle.text_core.specs.Places.{start, after}
use Rattle.smv_commands.proofs.LoweredRuns.{states_run}
use Rattle.smv_commands.proofs.laws.runs_are_lowered.Goals as goal

pub returns : goal.returns
returns c bytes j source a trace run states judged =
    let m = a.is_model in
    states_run c.lowered_are_accepted.ensures c.lowered_round_trip.ensures c.printed_is_read.ensures bytes j source a
    (c.model_lines_are_spelled.ensures source (after start bytes) bytes m.tokens m.lexed m.spelled j a.accepted m.low)
    (c.model_lines_are_laid_out.ensures source (after start bytes) bytes m.tokens m.lexed m.spelled j a.accepted m.low).laid
    trace run states judged

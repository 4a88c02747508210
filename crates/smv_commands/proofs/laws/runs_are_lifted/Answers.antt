use Rattle.text_core.specs.Places.{start, after}
use Rattle.smv_commands.proofs.LiftedRuns.{lifts_back}
use Rattle.smv_commands.proofs.laws.runs_are_lifted.Goals as goal

pub returns : goal.returns
returns c bytes source a lines spelled text w states judged =
    let m = a.is_model in
    lifts_back source (c.model_lines_are_spelled.ensures source (after start bytes) bytes m.tokens m.lexed m.spelled 0 a.accepted m.low)
    (c.model_lines_are_laid_out.ensures source (after start bytes) bytes m.tokens m.lexed m.spelled 0 a.accepted m.low).laid
    c.lifts_meet_queries.ensures
    (c.traces_break_invariants.ensures source 0 (record { text = bytes; tokens = m.tokens; end = after start bytes; lexed = m.lexed; spelled = m.spelled; low = m.low }) a.accepted)
    lines spelled text w states judged

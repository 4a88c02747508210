use Rattle.text_core.specs.Places.{start, after}
use Rattle.moxi_commands.proofs.LiftedTraces.{lifts_back}
use Rattle.moxi_commands.proofs.responses.traces_are_lifted.Goals as goal

pub returns : goal.returns
returns c bytes script a lines spelled text w states judged =
    let x = a.is_script in
    lifts_back script (c.spelled_scripts_are_valid.ensures x.forms (after start bytes) script x.spelled) (c.script_lines_are_laid_out.ensures bytes script a) c.printed_spells.ensures c.one_reading.ensures c.lifts_meet_queries.ensures c.traces_have_flat_traces.ensures
    lines spelled text w states judged

use Rattle.moxi_commands.proofs.LinesStand.{lines_are_correct}
use Rattle.moxi_commands.proofs.translate.lines_are_correct.Goals as goal

pub returns : goal.returns
returns c =
    lines_are_correct c.spelled_scripts_are_valid.ensures c.script_lines_are_laid_out.ensures c.bads_are_queries.ensures c.no_duplicate_lines.ensures c.traces_have_frames.ensures c.traces_have_flat_traces.ensures c.printed_spells.ensures c.one_reading.ensures

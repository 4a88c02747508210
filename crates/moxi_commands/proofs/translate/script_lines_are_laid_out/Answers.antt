use Rattle.moxi_commands.proofs.LinesStand.{laid_lines}
use Rattle.moxi_commands.proofs.translate.script_lines_are_laid_out.Goals as goal

pub returns : goal.returns
returns c =
    laid_lines c.spelled_scripts_are_valid.ensures c.codes_are_few.ensures c.flat_systems_are_sorted.ensures c.flat_sizes_are_script_sizes.ensures c.lines_stay_few.ensures c.lines_lay_out.ensures.laid c.lines_lay_out.ensures.well_formed

use Rattle.std.proofs.Common.{ap}
use Rattle.moxi_term_print.specs.Shown.{lines_text}
use Rattle.moxi_scripts.specs.Script.{PlainScript}
use Rattle.moxi_scripts.specs.ScriptView.{plain_script}
use Rattle.moxi_script_print.specs.Printing.{shown_script}
use Rattle.btor_commands.specs.Importing.{script_text}
use Rattle.btor_commands.proofs.import.text_of_lines.Goals as goal
use Rattle.btor_commands.proofs.Imported.{ok_same}

pub returns : goal.returns
unfolding script_text
returns c =
    ok_same c.print_script.result (lines_text (shown_script (plain_script c.in_ok-script.script))) (script_text c.args.nodes.now)
    (ap (λ (s : PlainScript). lines_text (shown_script s)) c.in_ok-script.ensures) c.print_script.ensures.printed

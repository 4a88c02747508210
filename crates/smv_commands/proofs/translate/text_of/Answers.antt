use Rattle.std.proofs.Common.{ap}
use Rattle.moxi_term_print.specs.Shown.{lines_text}
use Rattle.moxi_scripts.specs.Script.{PlainScript}
use Rattle.moxi_scripts.specs.ScriptView.{plain_script}
use Rattle.moxi_script_print.specs.Printing.{shown_script}
use Rattle.smv_flatten.specs.FlatModel.{flat_plain}
use Rattle.smv_script.specs.Script.{script_of}
use Rattle.smv_commands.proofs.translate.text_of.Goals as goal
use Rattle.btor_commands.proofs.Imported.{ok_same}

pub returns : goal.returns
returns c =
    ok_same c.print_script.result (lines_text (shown_script (plain_script c.in_ok-script.script))) (lines_text (shown_script (script_of (flat_plain c.args.flat.now) c.args.flat.now.width)))
    (ap (λ (s : PlainScript). lines_text (shown_script s)) c.in_ok-script.ensures.script) c.print_script.ensures.printed

use Rattle.std.proofs.Math.Logic.{∥∥₁_map}
use Rattle.moxi_term_print.specs.Shown.{lines_text}
use Rattle.moxi_scripts.specs.Invariant.{IsSpelled}
use Rattle.moxi_script_print.specs.Printing.{shown_script}
use Rattle.moxi_script_print.specs.ReadBack.{ReadsBackScript}
use Rattle.moxi_sexpr.proofs.Readable.{read_printable}
use Rattle.moxi_script_print.proofs.read_back_laws.printed_scripts_are_read_back.Goals as goal

pub returns : goal.returns
returns c s spelled depth =
    ∥∥₁_map spelled (λ (i : IsSpelled s).
    let whole = c.spelled_scripts_are_valid.ensures i.forms i.end s i.spelled in
    let names = c.printable_forms_give_spellable_names.ensures i.forms i.end s i.printable i.spelled in
    let b = c.shown_is_read_back.ensures (shown_script s) (c.valid_scripts_can_be_shown.ensures s whole names) depth in
    let r : ReadsBackScript (lines_text (shown_script s)) s = record {
      forms = b.forms;
      spelled = b.spelled;
      printable = read_printable (lines_text (shown_script s)) b.forms b.spelled;
      again = λ end. c.printed_scripts_are_spelled.ensures s b.forms end whole b.shown;
    } in
    r)

use Rattle.std.proofs.Common.{◌++◌, ap, ◌∙◌, map}
use Rattle.moxi_term_print.specs.Shown.{lines_text, text_of}
use Rattle.moxi_script_print.specs.Printing.{shown_logic, shown_enumerations, shown_sorts, shown_functions, shown_systems, shown_check, system_names}
use Rattle.moxi_scripts.specs.ScriptView.{plain_script}
use Rattle.moxi_script_print.proofs.Pieces.{script_end}
use Rattle.moxi_script_print.proofs.print.put_script.Goals as goal
use Rattle.moxi_term_print.proofs.TextLaws.{ok_same, onto}
use Rattle.text_core.specs.Bytes.{bytes_behind}

pub returns : goal.returns
returns c =
    let old = c.args.out.now in
    let p = plain_script c.args.script.now in
    let s = p.scope in
    let systems = system_names p.systems in
    let names = ap (map bytes_behind) c.deref.ensures.value ∙ c.in_ok-names.ensures in
    let names_again = ap (map bytes_behind) c.deref-2.ensures.value ∙ c.in_ok-names.ensures in
    let a = shown_logic p.logic in
    let b = shown_enumerations s.enumerations in
    let d = shown_sorts s s.sorts in
    let e = shown_functions s s.functions in
    let f = shown_systems s systems p.systems in
    let x = shown_check s systems p.check in
    let second = onto old _ _ _ (lines_text b) c.in_ok-put_logic.ensures c.in_ok-put_enumerations.ensures in
    let third = onto old _ _ _ (lines_text d) second c.in_ok-put_sorts.ensures in
    let fourth = onto old _ _ _ (lines_text e) third c.in_ok-put_functions.ensures in
    let fifth = onto old _ _ _ (lines_text f) fourth (c.in_ok-put_systems.ensures ∙ ap (λ ns. c.put_functions.new.out ++ lines_text (shown_systems s ns p.systems)) names) in
    let sixth = onto old _ _ _ (text_of x) fifth (c.in_ok-put_check.ensures ∙ ap (λ ns. c.put_systems.new.out ++ text_of (shown_check s ns p.check)) names_again) in
    ok_same c.put.result _ _ _ (script_end old a b d e f x c.put_check.new.out sixth) c.put.ensures.ok

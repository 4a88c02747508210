use Rattle.std.proofs.Common.{◌≡◌, ◌≤◌, sym, subst, arith}
use Rattle.text_core.specs.declared.place.Place.{Place}
use Rattle.text_core.specs.Places.{start}
use Rattle.btor_tree.specs.Fits.{IsWellFormed}
use Rattle.btor_tree.proofs.Grows.{empty_well_formed}
use Rattle.btor_tree.proofs.Resolved.{reads_well_formed}
use Rattle.btor_import.specs.Script.{import_of}
use Rattle.moxi_scripts.specs.Script.{PlainScript}
use Rattle.moxi_scripts.specs.Spelling.{SpellsScript}
use Rattle.moxi_scripts.specs.Valid.{IsValid}
use Rattle.moxi_script_print.specs.Again.{ReadsAs, with_place}
use Rattle.moxi_script_print.specs.NamesOfScripts.{HasSpellableNames}
use Rattle.moxi_script_print.specs.Printing.{shown_script}
use Rattle.moxi_term_print.specs.Shown.{SpellsShown, lines_text, shown_depths}
use Rattle.btor_commands.specs.Importing.{RepresentsLines, script_text}
use Rattle.btor_commands.specs.Traces.{SpellsText}
use Rattle.btor_commands.proofs.Imported.{stands}
use Rattle.btor_commands.proofs.import.imports_are_correct.Goals as goal

pub returns : goal.returns
unfolding script_text
returns c bytes lines spelled =
    let well : IsWellFormed lines = reads_well_formed spelled empty_well_formed in
    let whole : IsValid (import_of lines) = c.scripts_are_valid.ensures lines well in
    let names : HasSpellableNames (import_of lines) = c.names_are_spellable.ensures lines well in
    let few : shown_depths (shown_script (import_of lines)) ≤ 7 = c.brackets_are_few.ensures lines in
    let shown : SpellsShown (lines_text (shown_script (import_of lines))) (shown_script (import_of lines)) =
    c.shown_is_read_back.ensures (shown_script (import_of lines)) (c.valid_scripts_can_be_shown.ensures (import_of lines) whole names) (omega (arith, few)) in
    let again : (end : Place) → ReadsAs shown.forms end (import_of lines) = λ end. c.printed_scripts_are_spelled.ensures (import_of lines) shown.forms end whole shown.shown in
    let each : (script : PlainScript) → SpellsText (script_text lines) script → RepresentsLines lines script =
    λ script t.
    let forms = c.readings_are_one.ensures.forms (script_text lines) t.forms shown.forms t.formed shown.spelled in
    let b = again t.end in
    let same : script ≡ with_place (import_of lines) b.0 =
    c.one_script.ensures shown.forms t.end script (with_place (import_of lines) b.0) (subst (λ fs. SpellsScript fs t.end script) forms t.spelled) b.1 in
    subst (RepresentsLines lines) (sym same) (stands lines b.0 well c.traces_have_frames.ensures (c.queries_are_bads.ensures lines well)) in
    record {
      there = (with_place (import_of lines) (again start).0, record { forms = shown.forms; formed = shown.spelled; end = start; spelled = (again start).1 });
      each = each;
    }

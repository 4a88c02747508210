use Rattle.std.proofs.Common.{◌≡◌, ℕ, map, sym, subst, arith}
use Rattle.std.specs.Prelude.{◌≤◌}
use Rattle.text_core.specs.declared.place.Place.{Place}
use Rattle.text_core.specs.Places.{start, after}
use Rattle.smv_meaning.specs.Values.{given}
use Rattle.smv_flat.specs.FlatForms.{flat_smv}
use Rattle.smv_flat.specs.FlatWidth.{width_of}
use Rattle.moxi_scripts.specs.Behaviour.{Trace}
use Rattle.moxi_scripts.specs.Meeting.{MeetsQuery}
use Rattle.moxi_scripts.specs.Valid.{IsValid}
use Rattle.moxi_script_print.specs.NamesOfScripts.{HasSpellableNames}
use Rattle.smv_script_laws.specs.RunLaws.{HasRun, decoded_run}
use Rattle.moxi_term_print.specs.Shown.{SpellsShown, lines_text, shown_depths}
use Rattle.moxi_scripts.specs.Script.{PlainScript, query_of}
use Rattle.moxi_scripts.specs.Spelling.{SpellsScript}
use Rattle.moxi_script_print.specs.Printing.{shown_script}
use Rattle.moxi_script_print.specs.Again.{ReadsAs, with_place}
use Rattle.btor_commands.specs.Traces.{SpellsText}
use Rattle.smv_commands.specs.Scripts.{RepresentsModel, moxi_text}
use Rattle.smv_script.specs.Script.{script_for}
use Rattle.smv_commands.proofs.ScriptStands.{stands}
use Rattle.smv_commands.proofs.laws.scripts_are_correct.Goals as goal

pub returns : goal.returns
unfolding moxi_text
returns c bytes source a =
    let m = a.is_model in
    let end : Place = after start bytes in
    let whole : IsValid (script_for source) = c.scripts_are_valid.ensures source end bytes m.tokens m.lexed m.spelled 0 a.accepted in
    let names : HasSpellableNames (script_for source) = c.names_are_spellable.ensures source end bytes m.tokens m.lexed m.spelled 0 a.accepted in
    let few : shown_depths (shown_script (script_for source)) ≤ 1145 = c.brackets_are_few.ensures source end m.tokens m.spelled m.low (width_of (flat_smv source)) in
    let shown : SpellsShown (lines_text (shown_script (script_for source))) (shown_script (script_for source)) =
    c.shown_is_read_back.ensures (shown_script (script_for source)) (c.valid_scripts_can_be_shown.ensures (script_for source) whole names) (omega (arith, few)) in
    let again : (end : Place) → ReadsAs shown.forms end (script_for source) = λ end. c.printed_scripts_are_spelled.ensures (script_for source) shown.forms end whole shown.shown in
    let decoded : (j k : ℕ) (trace : Trace) → MeetsQuery (script_for source) (query_of j) k trace → HasRun source j k =
    λ j k trace met. (
      map given (decoded_run source trace k).states,
      map given (decoded_run source trace k).labels,
      c.runs_are_traces.ensures.decoded source end bytes m.tokens m.lexed m.spelled 0 a.accepted j k trace met,
    ) in
    let traced : (j k : ℕ) → HasRun source j k → (trace : Trace) × MeetsQuery (script_for source) (query_of j) k trace =
    λ j k r. c.runs_are_traces.ensures.traced source end bytes m.tokens m.lexed m.spelled 0 a.accepted j k r.0 r.1 r.2 in
    let each : (script : PlainScript) → SpellsText (moxi_text source) script → RepresentsModel source script =
    λ script t.
    let forms = c.readings_are_one.ensures.forms (moxi_text source) t.forms shown.forms t.formed shown.spelled in
    let b = again t.end in
    let same : script ≡ with_place (script_for source) b.0 =
    c.one_script.ensures shown.forms t.end script (with_place (script_for source) b.0) (subst (λ fs. SpellsScript fs t.end script) forms t.spelled) b.1 in
    subst (RepresentsModel source) (sym same) (stands source b.0 (c.runs_are_traces.ensures.queries source) decoded traced) in
    record {
      there = (with_place (script_for source) (again start).0, record { forms = shown.forms; formed = shown.spelled; end = start; spelled = (again start).1 });
      each = each;
    }

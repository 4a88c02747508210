use Rattle.std.proofs.Common.{arith}
use Rattle.std.specs.Prelude.{◌≤◌}
use Rattle.text_core.specs.declared.place.Place.{Place}
use Rattle.text_core.specs.Places.{start, after}
use Rattle.smv_flat.specs.FlatForms.{flat_smv}
use Rattle.smv_flat.specs.FlatWidth.{width_of}
use Rattle.smv_script.specs.Script.{script_for}
use Rattle.moxi_term_print.specs.Shown.{shown_depths}
use Rattle.moxi_script_print.specs.Printing.{shown_script}
use Rattle.moxi_scripts.specs.Valid.{IsValid}
use Rattle.top_call.proofs.TwoRoutes.{meets}
use Rattle.top_call.proofs.routes.routes_meet.Goals as goal

pub returns : goal.returns
returns c bytes source a within =
    let m = a.is_model in
    let end : Place = after start bytes in
    let whole : IsValid (script_for source) = c.scripts_are_valid.ensures source end bytes m.tokens m.lexed m.spelled 0 a.accepted in
    let names = c.names_are_spellable.ensures source end bytes m.tokens m.lexed m.spelled 0 a.accepted in
    let few : shown_depths (shown_script (script_for source)) ≤ 1145 = c.brackets_are_few.ensures source end m.tokens m.spelled m.low (width_of (flat_smv source)) in
    meets source (c.models_have_flat_systems.ensures source end bytes m.tokens m.lexed m.spelled 0 a.accepted m.low)
    (c.shown_is_read_back.ensures (shown_script (script_for source)) (c.valid_scripts_can_be_shown.ensures (script_for source) whole names) (omega (arith, few))) within
    (λ shown end. c.printed_scripts_are_spelled.ensures (script_for source) shown.forms end whole shown.shown)

-- The text of a model's script is the model's.
use Rattle.std.proofs.Common.{◌≡◌, ◌≤◌, Bool, true, false, length, Some, None, refl, cond}
use Rattle.text_core.specs.declared.place.Kind.TheVariants.{M}
use Rattle.text_core.specs.declared.place.Place.{Place}
use Rattle.text_core.specs.declared.place.Refusal.{Refusal}
use Rattle.text_core.specs.Places.{start, after}
use Rattle.smv_text.specs.Tree.{PlainSource}
use Rattle.smv_script.specs.Script.{script_for}
use Rattle.moxi_term_print.specs.Shown.{SpellsShown, lines_text}
use Rattle.moxi_scripts.specs.Script.{PlainScript}
use Rattle.moxi_script_print.specs.Printing.{shown_script}
use Rattle.moxi_script_print.specs.Again.{ReadsAs, with_place}
use Rattle.moxi_flat.specs.Limits.{flat_refusal, has_name_twice, is_too_large}
use Rattle.command_core.specs.declared.answer.Answer.TheVariants.{Done}
use Rattle.command_core.specs.declared.answer.Output.TheVariants.{Text}
use Rattle.smv_commands.specs.Scripts.{moxi_text}
use Rattle.smv_commands.specs.Translation.{btor_text}
use Rattle.moxi_commands.specs.Limits.{most_script_bytes}
use Rattle.moxi_commands.specs.Translation.{OfBytes, btor_text as text_of_script}

neither : {A : Type 0} (a b : Bool) (x y u v : A) → cond a (Some x) (cond b (Some y) None) ≡ None → cond a (Some u) (cond b (Some v) None) ≡ None
neither true b x y u v e = absurd (cc)
neither false true x y u v e = absurd (cc)
neither false false x y u v e = refl

-- a script that isn't refused isn't refused wherever its check stands
placed : (s : PlainScript) (p : Place) → flat_refusal s ≡ None → flat_refusal (with_place s p) ≡ None
placed s p e =
    neither {A = Refusal} (is_too_large s) (has_name_twice s) (record { kind = M 15; place = s.check.place }) (record { kind = M 9; place = s.check.place }) (record { kind = M 15; place = p }) (record { kind = M 9; place = p }) e

-- its text doesn't tell where
same_text : (source : PlainSource) (p : Place) → btor_text source ≡ text_of_script (with_place (script_for source) p)
unfolding btor_text text_of_script
same_text source p = refl

pub meets : (source : PlainSource) → flat_refusal (script_for source) ≡ None → SpellsShown (lines_text (shown_script (script_for source))) (shown_script (script_for source)) → length (moxi_text source) ≤ most_script_bytes
    → ((shown : SpellsShown (lines_text (shown_script (script_for source))) (shown_script (script_for source))) (end : Place) → ReadsAs shown.forms end (script_for source)) → OfBytes (moxi_text source) (Done (Text (btor_text source)))
unfolding moxi_text
meets source accepted shown within again =
    let text = lines_text (shown_script (script_for source)) in
    let read : ReadsAs shown.forms (after start text) (script_for source) = again shown (after start text) in (
      with_place (script_for source) read.0,
      record {
        is_script = record { within = within; forms = shown.forms; formed = shown.spelled; spelled = read.1 };
        accepted = placed (script_for source) read.0 accepted;
      },
      same_text source read.0,
    )

-- A script that was written of a model's bytes stands for the model.
use Rattle.std.proofs.Common.{◌≡◌, ℕ, List, Option, Some, refl, sym, ◌∙◌, subst}
use Rattle.text_core.specs.Outside.{Files, file_at, grown}
use Rattle.command_core.specs.declared.answer.Answer.{Answer}
use Rattle.command_core.specs.declared.status.Status.TheVariants as status
use Rattle.command_core.specs.Answers.{status_of, text_of}
use Rattle.command_core.specs.laws.Files.{done_from}
use Rattle.command_core.specs.laws.Texts.{done_text}
use Rattle.smv_flatten.specs.FlatModel.{FlatModel, flat_plain}
use Rattle.smv_script.specs.Script.{script_of}
use Rattle.moxi_term_print.specs.Shown.{lines_text}
use Rattle.moxi_script_print.specs.Printing.{shown_script}
use Rattle.smv_models.specs.Limits.{most_smv_bytes}
use Rattle.smv_models.specs.Models.{IsCheckRefusal, IsFormIn, smv_too_long}
use Rattle.smv_commands.specs.Scripts.{IsScript, IsScriptText, IsCorrectOutput, OfBytes, ScriptsAreCorrect, WritesScript}
use Rattle.smv_commands.proofs.ScriptStands.{made_text}

correct_bytes : (stands : ScriptsAreCorrect) (fs : Files) (model bytes : List ℕ) (b : Answer) (before now : Option (List ℕ)) → file_at fs model ≡ Some bytes → OfBytes bytes b → status_of b ≡ status.Done → now ≡ grown before (text_of b) → IsCorrectOutput fs model before now
correct_bytes stands fs model bytes b before now there h s w =
    let t = done_text (IsScriptText bytes) (IsCheckRefusal bytes 0) b h s in
    record { bytes = bytes; there = there; source = t.0; accepted = t.1; text = text_of b; written = w; script = subst (WritesScript t.0) (sym t.2) (stands bytes t.0 t.1) }

-- the text of a flat form's script is that of the model that the bytes spell
pub made_of_bytes : (bytes : List ℕ) (f : FlatModel) (text : List ℕ) → IsFormIn bytes 0 f → text ≡ lines_text (shown_script (script_of (flat_plain f) f.width)) → IsScriptText bytes text
made_of_bytes bytes f text form h = (form.source, form.accepted, h ∙ made_text form.source (flat_plain f) f.width form.form.form form.form.width)

-- a script that was written whole stands for its model
pub correct_output : (stands : ScriptsAreCorrect) (fs : Files) (model : List ℕ) (b : Answer) (before now : Option (List ℕ)) → IsScript fs model b → status_of b ≡ status.Done → now ≡ grown before (text_of b) → IsCorrectOutput fs model before now
correct_output stands fs model b before now h s w =
    done_from fs model most_smv_bytes smv_too_long OfBytes b refl h s (λ bytes there g. correct_bytes stands fs model bytes b before now there g s w)

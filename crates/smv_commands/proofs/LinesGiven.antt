-- Files define one BTOR2 text of a model, and what was written of them stands for the model.
use Rattle.std.proofs.Common.{◌≡◌, ℕ, List, Option, Some, Result, Ok, Err, refl, sym, ap, ◌∙◌, subst}
use Rattle.std.specs.Prelude.{IfOk}
use Rattle.text_core.specs.Outside.{Files, file_at, grown}
use Rattle.smv_text.specs.Tree.{PlainSource}
use Rattle.smv_flatten.specs.FlatModel.{FlatModel, IsFormOf}
use Rattle.command_core.specs.declared.answer.Answer.{Answer}
use Rattle.command_core.specs.declared.answer.Answer.TheVariants.{Done}
use Rattle.command_core.specs.declared.answer.Output.TheVariants.{Text}
use Rattle.command_core.specs.declared.status.Status.TheVariants as status
use Rattle.command_core.specs.Answers.{status_of, text_of}
use Rattle.command_core.specs.Reading.{file_within}
use Rattle.command_core.specs.laws.Files.{done_from, goes_once, on_read}
use Rattle.command_core.specs.laws.Texts.{done_text, one_answer}
use Rattle.smv_models.specs.Limits.{most_smv_bytes}
use Rattle.smv_models.specs.Models.{IsCheckRefusal, IsFormIn, smv_too_long}
use Rattle.smv_models.proofs.Checked.{not_checked, one_check_refusal}
use Rattle.smv_models.proofs.Sources.{same_model}
use Rattle.smv_commands.specs.Translation.{Accepts, IsBtorText, IsCorrectOutput, IsTranslation, OfBytes, TranslatesTo, TranslationsAreCorrect, btor_text}

one_btor_text : (bytes x y : List ℕ) → IsBtorText bytes x → IsBtorText bytes y → x ≡ y
one_btor_text bytes x y h k = h.2 ∙ ap btor_text (same_model bytes h.0 k.0 h.1.is_model k.1.is_model) ∙ sym k.2

one_of_bytes : (bytes : List ℕ) (a b : Answer) → OfBytes bytes a → OfBytes bytes b → a ≡ b
one_of_bytes bytes a b h k = one_answer (IsBtorText bytes) (IsCheckRefusal bytes 0) (one_btor_text bytes) (one_check_refusal bytes 0) (λ x r h k. not_checked bytes 0 r h.0 k h.1) a b h k

-- files define one translation
pub one_translation : (fs : Files) (model : List ℕ) (a b : Answer) → IsTranslation fs model a → IsTranslation fs model b → a ≡ b
one_translation fs model a b h k = goes_once (file_within fs model most_smv_bytes smv_too_long) OfBytes one_of_bytes a b h k

-- the defined answer to an accepted model
pub accepted_answer : (fs : Files) (model bytes : List ℕ) (source : PlainSource) → file_at fs model ≡ Some bytes → Accepts bytes source → IsTranslation fs model (Done (Text (btor_text source)))
accepted_answer fs model bytes source there a =
    on_read fs model bytes most_smv_bytes smv_too_long OfBytes (Done (Text (btor_text source))) there a.is_model.within (source, a, refl)

correct_bytes : (stands : TranslationsAreCorrect) (fs : Files) (model bytes : List ℕ) (b : Answer) (before now : Option (List ℕ)) → file_at fs model ≡ Some bytes → OfBytes bytes b → status_of b ≡ status.Done → now ≡ grown before (text_of b) → IsCorrectOutput fs model before now
correct_bytes stands fs model bytes b before now there h s w =
    let t = done_text (IsBtorText bytes) (IsCheckRefusal bytes 0) b h s in
    record { bytes = bytes; there = there; source = t.0; accepted = t.1; text = text_of b; written = w; translated = subst (TranslatesTo t.0) (sym t.2) (stands bytes t.0 t.1) }

-- the text of a chain's lines is that of the model that the bytes spell
pub made_of_bytes : {E : Type 0} (bytes : List ℕ) (f : FlatModel) (result : Result (List ℕ) E) → IsFormIn bytes 0 f → IfOk result (λ text. (source : PlainSource) → IsFormOf source f → text ≡ btor_text source) → IfOk result (IsBtorText bytes)
made_of_bytes bytes f (Ok text) form h = (form.source, form.accepted, h form.source form.form)
made_of_bytes bytes f (Err e) form h = tt

-- a text that was written whole stands for its model
pub correct_output : (stands : TranslationsAreCorrect) (fs : Files) (model : List ℕ) (b : Answer) (before now : Option (List ℕ)) → IsTranslation fs model b → status_of b ≡ status.Done → now ≡ grown before (text_of b) → IsCorrectOutput fs model before now
correct_output stands fs model b before now h s w =
    done_from fs model most_smv_bytes smv_too_long OfBytes b refl h s (λ bytes there g. correct_bytes stands fs model bytes b before now there g s w)

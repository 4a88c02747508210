-- What is answered to a script's bytes is what is defined of them, and what was written for them stands for the script.
use Rattle.std.proofs.Common.{◌≡◌, inl, inr, ℕ, List, Option, Some, None, Result, Ok, Err, refl, sym, ap, ◌∙◌, subst}
use Rattle.std.specs.Prelude.{IfOk}
use Rattle.text_core.specs.declared.end.End.{End}
use Rattle.text_core.specs.declared.end.End.TheVariants.{Bad, NoMemory}
use Rattle.text_core.specs.Outside.{Files, file_at, grown}
use Rattle.btor_tree.specs.Printing.{printed}
use Rattle.moxi_scripts.specs.Script.{PlainScript}
use Rattle.moxi_flat.specs.FlatSystem.{PlainFlatSystem, flat_of}
use Rattle.moxi_flat.specs.Limits.{flat_refusal}
use Rattle.moxi_instantiate.specs.Instances.{IsInstEnd}
use Rattle.moxi_lines.specs.Lines.{lines_of}
use Rattle.command_core.specs.declared.answer.Answer.{Answer}
use Rattle.command_core.specs.declared.status.Status.TheVariants as status
use Rattle.command_core.specs.Answers.{status_of, text_of}
use Rattle.command_core.specs.Reading.{file_within}
use Rattle.command_core.specs.laws.Files.{done_from, goes_once}
use Rattle.command_core.specs.laws.Texts.{done_text, one_answer}
use Rattle.moxi_commands.specs.Limits.{most_script_bytes}
use Rattle.moxi_commands.specs.Scripts.{IsScriptText, IsSystemRefusal, IsTextEnd, script_too_long}
use Rattle.moxi_commands.specs.Translation.{IsBtorText, IsInstantiated, IsLinesEnd, IsLinesText, IsCorrectOutput, LinesAreCorrect, OfBytes, WritesLines, btor_text}
use Rattle.moxi_commands.proofs.Refused.{not_refused, one_system_refusal, same_script}

-- ---- one answer

one_lines_text : (bytes x y : List ℕ) → IsLinesText bytes x → IsLinesText bytes y → x ≡ y
one_lines_text bytes x y h k = h.2 ∙ ap btor_text (same_script bytes h.0 k.0 h.1.is_script k.1.is_script) ∙ sym k.2

one_of_bytes : (bytes : List ℕ) (a b : Answer) → OfBytes bytes a → OfBytes bytes b → a ≡ b
one_of_bytes bytes a b h k =
    one_answer (IsLinesText bytes) (IsSystemRefusal bytes) (one_lines_text bytes) (one_system_refusal bytes) (λ text r h k. not_refused bytes r h.0 k h.1.is_script h.1.accepted) a b h k

-- files define one text
pub one_text : (fs : Files) (model : List ℕ) (a b : Answer) → IsBtorText fs model a → IsBtorText fs model b → a ≡ b
one_text fs model a b h k = goes_once (file_within fs model most_script_bytes script_too_long) OfBytes one_of_bytes a b h k

-- ---- the text that is made

pub text_is : (s : PlainScript) (f : PlainFlatSystem) (text : List ℕ) → f ≡ flat_of s → text ≡ printed (lines_of f) → text ≡ btor_text s
unfolding btor_text
text_is s f text e h = h ∙ ap (λ (x : PlainFlatSystem). printed (lines_of x)) e

pub of_script : (bytes : List ℕ) (s : PlainScript) (result : Result (List ℕ) End) → IsScriptText bytes s → IfOk result (λ text. flat_refusal s ≡ None) → IfOk result (λ text. text ≡ btor_text s)
    → IfOk result (λ text. (script : PlainScript) × IsInstantiated bytes script × (text ≡ btor_text script))
of_script bytes s (Ok text) is accepted h = (s, record { is_script = is; accepted = accepted }, h)
of_script bytes s (Err z) is accepted h = tt

pub no_script : (bytes : List ℕ) (s : PlainScript) (end : End) → IsScriptText bytes s → IsInstEnd s end → IsLinesEnd bytes end
no_script bytes s (Bad why) is h = inr (s, is, h)
no_script bytes s NoMemory is h = tt

pub no_text : (bytes : List ℕ) (end : End) → IsTextEnd bytes end → IsLinesEnd bytes end
no_text bytes (Bad why) h = inl h
no_text bytes NoMemory h = tt

-- ---- what was written

correct_bytes : (stands : LinesAreCorrect) (fs : Files) (model bytes : List ℕ) (b : Answer) (before now : Option (List ℕ)) → file_at fs model ≡ Some bytes → OfBytes bytes b → status_of b ≡ status.Done → now ≡ grown before (text_of b) → IsCorrectOutput fs model before now
correct_bytes stands fs model bytes b before now there h s w =
    let t = done_text (IsLinesText bytes) (IsSystemRefusal bytes) b h s in
    record { bytes = bytes; there = there; script = t.0; instantiated = t.1; text = text_of b; written = w; lines = subst (WritesLines t.0) (sym t.2) (stands bytes t.0 t.1) }

-- a text that was written whole stands for its script
pub correct_output : (stands : LinesAreCorrect) (fs : Files) (model : List ℕ) (b : Answer) (before now : Option (List ℕ)) → IsBtorText fs model b → status_of b ≡ status.Done → now ≡ grown before (text_of b) → IsCorrectOutput fs model before now
correct_output stands fs model b before now h s w =
    done_from fs model most_script_bytes script_too_long OfBytes b refl h s (λ bytes there g. correct_bytes stands fs model bytes b before now there g s w)

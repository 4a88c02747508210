-- What is answered to a text's bytes is what is defined of them, and what was written for them stands for its lines.
use Rattle.std.proofs.Common.{◌≡◌, ◌<◌, ◌∙◌, ℕ, zero, suc, List, [], ◌∷◌, Option, Some, refl, sym, ap, length, subst, slice_get, arith, Result, Ok, Err}
use Rattle.text_core.specs.declared.place.Place.{Place}
use Rattle.text_core.specs.Outside.{Files, file_at, grown}
use Rattle.btor_tree.specs.declared.lines.Line.{Line}
use Rattle.btor_tree.specs.Fits.{IsWellFormed, is_bad, operands}
use Rattle.btor_tree.proofs.Readings.{one_list}
use Rattle.text_core.specs.declared.end.End.TheVariants.{Bad}
use Rattle.btor_text.specs.Answer.{IsRefused}
use Rattle.btor_text.specs.laws.Refusals.{not_both, one_refusal}
use Rattle.btor_import.specs.Script.{check_of, import_of}
use Rattle.btor_import_laws.specs.Laws.{TracesHaveFrames}
use Rattle.moxi_layout.specs.LayoutLaws.{HasFrames}
use Rattle.moxi_scripts.specs.declared.script.Query.{Query}
use Rattle.moxi_scripts.specs.Script.{PlainScript}
use Rattle.moxi_scripts.specs.Behaviour.{Trace}
use Rattle.moxi_scripts.specs.Meeting.{MeetsQuery}
use Rattle.moxi_script_print.specs.Again.{with_place}
use Rattle.command_core.specs.declared.answer.Answer.{Answer}
use Rattle.command_core.specs.declared.status.Status.TheVariants as status
use Rattle.command_core.specs.Answers.{status_of, text_of}
use Rattle.command_core.specs.Reading.{file_within}
use Rattle.command_core.specs.laws.Files.{done_from, goes_once}
use Rattle.command_core.specs.laws.Texts.{done_text, one_answer}
use Rattle.btor_commands.specs.Importing.{IsImport, IsScriptText, IsCorrectOutput, OfBytes, ScriptsAreCorrect, RepresentsLines, WritesScript, script_text}
use Rattle.btor_commands.specs.Judgement.{btor_too_long}
use Rattle.btor_commands.specs.Limits.{most_btor_bytes}
use Rattle.btor_commands.specs.Traces.{HasTrace}
use Rattle.std.specs.Prelude.{IfOk}

-- ---- one answer

one_script_text : (bytes x y : List ℕ) → IsScriptText bytes x → IsScriptText bytes y → x ≡ y
one_script_text bytes x y h k = h.2 ∙ ap script_text (one_list h.1 k.1 refl) ∙ sym k.2

one_of_bytes : (bytes : List ℕ) (a b : Answer) → OfBytes bytes a → OfBytes bytes b → a ≡ b
one_of_bytes bytes a b h k =
    one_answer (IsScriptText bytes) (λ r. IsRefused bytes (Bad r)) (one_script_text bytes) (one_refusal bytes) (λ text r h k. not_both bytes h.0 r h.1 k) a b h k

-- files define one script
pub one_import : (fs : Files) (model : List ℕ) (a b : Answer) → IsImport fs model a → IsImport fs model b → a ≡ b
one_import fs model a b h k = goes_once (file_within fs model most_btor_bytes btor_too_long) OfBytes one_of_bytes a b h k

-- ---- what was written

correct_bytes : (stands : ScriptsAreCorrect) (fs : Files) (model bytes : List ℕ) (b : Answer) (before now : Option (List ℕ)) → file_at fs model ≡ Some bytes → OfBytes bytes b → status_of b ≡ status.Done → now ≡ grown before (text_of b) → IsCorrectOutput fs model before now
correct_bytes stands fs model bytes b before now there h s w =
    let t = done_text (IsScriptText bytes) (λ r. IsRefused bytes (Bad r)) b h s in
    record { bytes = bytes; there = there; lines = t.0; spelled = t.1; text = text_of b; written = w; script = subst (WritesScript t.0) (sym t.2) (stands bytes t.0 t.1) }

-- a script that was written whole stands for the lines
pub correct_output : (stands : ScriptsAreCorrect) (fs : Files) (model : List ℕ) (b : Answer) (before now : Option (List ℕ)) → IsImport fs model b → status_of b ≡ status.Done → now ≡ grown before (text_of b) → IsCorrectOutput fs model before now
correct_output stands fs model b before now h s w =
    done_from fs model most_btor_bytes btor_too_long OfBytes b refl h s (λ bytes there g. correct_bytes stands fs model bytes b before now there g s w)

-- ---- the script, wherever its check stands

pub met_there : (s : PlainScript) (p : Place) (q : Query) (k : ℕ) (trace : Trace) → MeetsQuery (with_place s p) q k trace → MeetsQuery s q k trace
met_there s p q k trace m = record { behaves = m.behaves; assumptions = m.assumptions; currents = m.currents; reached = m.reached; reached_last = m.reached_last }

pub met_here : (s : PlainScript) (p : Place) (q : Query) (k : ℕ) (trace : Trace) → MeetsQuery s q k trace → MeetsQuery (with_place s p) q k trace
met_here s p q k trace m = record { behaves = m.behaves; assumptions = m.assumptions; currents = m.currents; reached = m.reached; reached_last = m.reached_last }

pub there : {T : Type 0} (xs : List T) (j : ℕ) → j < length xs → (x : T) × (slice_get xs j ≡ Some x)
there [] j h = absurd (omega (arith, h))
there (x ∷ xs) zero h = (x, refl)
there (x ∷ xs) (suc j) h = there xs j (omega (arith, h))

module _ (lines : List Line) (p : Place) (well : IsWellFormed lines) (have : TracesHaveFrames) (count : length (check_of lines).queries ≡ length (operands is_bad lines)) where
  from_trace : (j k : ℕ) → HasTrace (with_place (import_of lines) p) j k → HasFrames lines j k
  from_trace j k x = (have lines well j k x.query x.there).0 (x.trace, met_there (import_of lines) p x.query k x.trace x.meets)

  from_frames : (j k : ℕ) → j < length (operands is_bad lines) → HasFrames lines j k → HasTrace (with_place (import_of lines) p) j k
  from_frames j k h f =
      let q = there (check_of lines).queries j (omega (arith, h, count)) in
      let t = (have lines well j k q.0 q.1).1 f in
      record { query = q.0; there = q.1; trace = t.0; meets = met_here (import_of lines) p q.0 k t.0 t.1 }

  pub stands : RepresentsLines lines (with_place (import_of lines) p)
  stands = record {
    queries = count;
    frames = λ j k h. (from_frames j k h, from_trace j k);
  }

pub ok_same : {A E : Type 0} (result : Result A E) (x y : A) → x ≡ y → IfOk result (λ a. a ≡ x) → IfOk result (λ a. a ≡ y)
ok_same (Ok a) x y e h = h ∙ e
ok_same (Err z) x y e h = tt

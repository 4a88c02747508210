-- What is written for an accepted model is a script that stands for it.
use Rattle.std.proofs.Common.{◌≡◌, ℕ, ◌<◌, List, Option, Some, sym, ap, ◌∙◌, subst}
use Rattle.std.specs.Prelude.{slice_get}
use Rattle.text_core.specs.declared.place.Place.{Place}
use Rattle.smv_text.specs.Tree.{PlainSource}
use Rattle.smv_flat.specs.FlatForms.{PlainFlat, flat_smv}
use Rattle.smv_flat.specs.FlatWidth.{width_of}
use Rattle.smv_script.specs.Script.{script_of}
use Rattle.moxi_term_print.specs.Shown.{lines_text}
use Rattle.moxi_script_print.specs.Printing.{shown_script}
use Rattle.smv_script_laws.specs.RunLaws.{HasRun, HasQueries, invariant_count}
use Rattle.smv_script.specs.Script.{script_for}
use Rattle.moxi_scripts.specs.declared.script.Query.{Query}
use Rattle.moxi_scripts.specs.Behaviour.{Trace}
use Rattle.moxi_scripts.specs.Meeting.{MeetsQuery}
use Rattle.moxi_script_print.specs.Again.{with_place}
use Rattle.command_core.specs.declared.answer.Answer.{Answer}
use Rattle.command_core.specs.laws.Texts.{one_answer}
use Rattle.btor_commands.specs.Traces.{HasTrace}
use Rattle.smv_commands.specs.Scripts.{IsScript, IsScriptText, OfBytes, RepresentsModel, moxi_text}
use Rattle.text_core.specs.Outside.{Files}
use Rattle.command_core.specs.Reading.{file_within}
use Rattle.command_core.specs.laws.Files.{goes_once}
use Rattle.smv_models.specs.Limits.{most_smv_bytes}
use Rattle.smv_models.specs.Models.{IsCheckRefusal, smv_too_long}
use Rattle.smv_models.proofs.Checked.{not_checked, one_check_refusal}
use Rattle.smv_models.proofs.Sources.{same_model}
use Rattle.btor_commands.proofs.Imported.{met_here, met_there}
use Rattle.moxi_scripts.specs.Script.{query_of}

-- ---- one answer

one_script_text : (bytes x y : List ℕ) → IsScriptText bytes x → IsScriptText bytes y → x ≡ y
one_script_text bytes x y h k = h.2 ∙ ap moxi_text (same_model bytes h.0 k.0 h.1.is_model k.1.is_model) ∙ sym k.2

one_of_bytes : (bytes : List ℕ) (a b : Answer) → OfBytes bytes a → OfBytes bytes b → a ≡ b
one_of_bytes bytes a b h k = one_answer (IsScriptText bytes) (IsCheckRefusal bytes 0) (one_script_text bytes) (one_check_refusal bytes 0) (λ x r h k. not_checked bytes 0 r h.0 k h.1) a b h k

-- files define one script
pub one_script : (fs : Files) (model : List ℕ) (a b : Answer) → IsScript fs model a → IsScript fs model b → a ≡ b
one_script fs model a b h k = goes_once (file_within fs model most_smv_bytes smv_too_long) OfBytes one_of_bytes a b h k

-- ---- the script, wherever its check stands

one_query : (o : Option Query) (q r : Query) → o ≡ Some q → o ≡ Some r → q ≡ r
one_query o q r e f = cc

module _ (source : PlainSource) (p : Place) (has : HasQueries source)
    (decoded : (j k : ℕ) (trace : Trace) → MeetsQuery (script_for source) (query_of j) k trace → HasRun source j k)
    (traced : (j k : ℕ) → HasRun source j k → (trace : Trace) × MeetsQuery (script_for source) (query_of j) k trace) where
  has_run : (j k : ℕ) → j < invariant_count source → HasTrace (with_place (script_for source) p) j k → HasRun source j k
  has_run j k h x =
      let same : x.query ≡ query_of j = one_query (slice_get (script_for source).check.queries j) x.query (query_of j) x.there (has.each j h) in
      decoded j k x.trace (subst (λ q. MeetsQuery (script_for source) q k x.trace) same (met_there (script_for source) p x.query k x.trace x.meets))

  has_trace : (j k : ℕ) → j < invariant_count source → HasRun source j k → HasTrace (with_place (script_for source) p) j k
  has_trace j k h r =
      let m = traced j k r in
      record { query = query_of j; there = has.each j h; trace = m.0; meets = met_here (script_for source) p (query_of j) k m.0 m.1 }

  pub stands : RepresentsModel source (with_place (script_for source) p)
  stands = record {
    queries = has.counted;
    runs = λ j k h. (has_trace j k h, has_run j k h);
  }

-- ---- texts

-- the text of a model's flat form is the model's
pub made_text : (source : PlainSource) (flat : PlainFlat) (width : ℕ) → flat ≡ flat_smv source → width ≡ width_of (flat_smv source) → lines_text (shown_script (script_of flat width)) ≡ moxi_text source
unfolding moxi_text
made_text source flat width e w = ap (λ (f : PlainFlat). lines_text (shown_script (script_of f width))) e ∙ ap (λ (n : ℕ). lines_text (shown_script (script_of (flat_smv source) n))) w

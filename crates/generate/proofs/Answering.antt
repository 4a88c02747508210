-- What is answered is what is defined.
use Rattle.std.proofs.Common.{◌≡◌, inl, inr, ℕ, List, length, Result, Ok, Err, refl, ap, subst, ◌∙◌}
use Rattle.std.specs.Prelude.{IfOk}
use Rattle.text_core.specs.declared.end.End.TheVariants.{Bad}
use Rattle.text_core.specs.declared.place.Refusal.{Refusal}
use Rattle.text_core.specs.declared.verdict.Clause.{Clause}
use Rattle.text_core.specs.declared.verdict.Verdict.TheVariants.{Yes, No}
use Rattle.btor_tree.specs.declared.lines.Line.{Line}
use Rattle.btor_tree.specs.Fits.{count_of, is_input}
use Rattle.btor_witness.specs.declared.witness.Witness.{Witness}
use Rattle.btor_witness.specs.Judging.{judged_btor}
use Rattle.smv_text.specs.Tree.{PlainSource}
use Rattle.smv_meaning.specs.Instances.{weight_of}
use Rattle.smv_flatten.specs.FlatModel.{FlatModel, HasForm}
use Rattle.btor_witness.specs.Answer.{IsRefused}
use Rattle.btor_witness.specs.Texts.{SpellsWitness}
use Rattle.witness_lift.specs.Lifting.{lines_in}
use Rattle.witness_lift.specs.LineLaws.{model_system}
use Rattle.command_core.specs.declared.answer.Answer.{Answer}
use Rattle.command_core.specs.declared.answer.Answer.TheVariants as answer
use Rattle.smv_models.specs.Models.{IsCheckRefusal, IsFormIn}
use Rattle.generate.specs.Made.{lines_text, made_model, made_witness}
use Rattle.generate.specs.Generating.{IsGenerated, IsSummary, OfLines, OfModels, OfWitness, summary_lines, summary_text, verdict_for}
use Rattle.generate.proofs.Forms.{lines_are}

-- the summary of the lines of a model's flat form is that of the model
pub summarised : {E : Type 0} (n : ℕ) (source : PlainSource) (lines nodes : List Line) (w : Witness) (weight frames : ℕ) (result : Result (List ℕ) E)
    → nodes ≡ lines → count_of is_input lines ≡ length (model_system source).variables → weight ≡ weight_of source → frames ≡ length w.frames
    → judged_btor lines w Yes → verdict_for source w ≡ Yes
    → IfOk result (λ text. text ≡ lines_text (summary_lines n (count_of is_input nodes) weight (length nodes) frames)) → IfOk result (IsSummary n source lines w)
unfolding summary_text
summarised n source lines nodes w weight frames (Ok text) a b c d accepted broken e = record {
  accepted = accepted;
  broken = broken;
  written =
      e ∙ ap (λ (ls : List Line). lines_text (summary_lines n (count_of is_input ls) weight (length ls) frames)) a
      ∙ ap (λ (v : ℕ). lines_text (summary_lines n v weight (length lines) frames)) b
      ∙ ap (λ (g : ℕ). lines_text (summary_lines n (length (model_system source).variables) g (length lines) frames)) c
      ∙ ap (λ (k : ℕ). lines_text (summary_lines n (length (model_system source).variables) (weight_of source) (length lines) k)) d;
}
summarised n source lines nodes w weight frames (Err why) a b c d accepted broken e = tt

-- ---- for each model of a flat form

-- what a result is for each model, it is for all of them
pub for_models : {X E : Type 0} (f : FlatModel) (P : PlainSource → X → Type 0) (result : Result X E) → OfModels f (λ source. IfOk result (P source)) → IfOk result (λ x. OfModels f (λ source. P source x))
for_models f P (Ok x) h = λ source form weight. h source form weight
for_models f P (Err e) h = tt

-- the lines' judge says no
pub rejected : (n : ℕ) (f : FlatModel) (lines : List Line) (w : Witness) (step : ℕ) (clause : Clause) → judged_btor lines w (No step clause) → OfModels f (λ source. OfWitness n source lines w (answer.No step clause))
rejected n f lines w step clause h = λ source form weight. h

-- what is answered to a witness is answered to the text that spells it
pub of_witness : {E : Type 0} (n : ℕ) (second : List ℕ) (f : FlatModel) (lines : List Line) (w : Witness) (result : Result Answer E) → SpellsWitness lines second w → IfOk result (λ a. OfModels f (λ source. OfWitness n source lines w a))
    → IfOk result (λ a. OfModels f (λ source. OfLines n second source lines a))
of_witness n second f lines w (Ok a) spelled h = λ source form weight. inl (w, spelled, h source form weight)
of_witness n second f lines w (Err e) spelled h = tt

pub refused : (n : ℕ) (second : List ℕ) (f : FlatModel) (lines : List Line) (refusal : Refusal) → IsRefused lines second (Bad refusal) → OfModels f (λ source. OfLines n second source lines (answer.SecondRefused refusal))
refused n second f lines refusal h = λ source form weight. inr (refusal, h, refl)

-- ---- for the made model

pub has_form : (bytes : List ℕ) (f : FlatModel) → IsFormIn bytes 0 f → HasForm f
has_form bytes f form = (form.source, form.form)

pub of_form : {E : Type 0} (n : ℕ) (f : FlatModel) (result : Result Answer E) → IsFormIn (made_model n) 0 f → IfOk result (λ a. OfModels f (λ source. OfLines n (made_witness n) source (lines_in f) a)) → IfOk result (IsGenerated n)
of_form n f (Ok a) form h =
    inl (form.source, form.accepted, subst (λ (ls : List Line). OfLines n (made_witness n) form.source ls a) (lines_are form.source f form.form) (h form.source form.form form.weight))
of_form n f (Err e) form h = tt

pub model_refused : (n : ℕ) (refusal : Refusal) → IsCheckRefusal (made_model n) 0 refusal → IsGenerated n (answer.Refused refusal)
model_refused n refusal h = inr (refusal, h, refl)

-- What is answered for the made model of n cells and the made witness: what is answered to a lift of this witness for this model, with a
-- summary in place of the trace.
use Rattle.std.specs.Prelude.{◌≡◌, ◌⊎◌, ◌-◌, ℕ, List, [], ◌∷◌, ◌++◌, length, map, codes, decimal}
use Rattle.text_core.specs.declared.end.End.TheVariants.{Bad}
use Rattle.text_core.specs.declared.place.Refusal.{Refusal}
use Rattle.text_core.specs.declared.verdict.Verdict.{Verdict}
use Rattle.text_core.specs.declared.verdict.Verdict.TheVariants as verdict
use Rattle.btor_tree.specs.declared.lines.Line.{Line}
use Rattle.btor_witness.specs.declared.witness.Witness.{Witness}
use Rattle.btor_witness.specs.Answer.{IsRefused}
use Rattle.btor_witness.specs.Judging.{judged_btor}
use Rattle.btor_witness.specs.Texts.{SpellsWitness}
use Rattle.smv_text.specs.Tree.{PlainSource}
use Rattle.smv_meaning.specs.declared.value.Run.{Run}
use Rattle.smv_meaning.specs.Instances.{weight_of}
use Rattle.smv_meaning.specs.Runs.{judged_smv}
use Rattle.smv_meaning.specs.Values.{given}
use Rattle.smv_script_laws.specs.RunLaws.{decoded_run}
use Rattle.smv_flatten.specs.FlatModel.{FlatModel, IsFormOf}
use Rattle.witness_lift.specs.LineLaws.{model_lines, model_system}
use Rattle.moxi_lift.specs.Lifted.{lifted}
use Rattle.command_core.specs.declared.answer.Answer.{Answer}
use Rattle.command_core.specs.declared.answer.Answer.TheVariants.{SecondRefused, No, Done}
use Rattle.command_core.specs.declared.answer.Output.TheVariants.{Text}
use Rattle.smv_models.specs.Models.{IsAcceptedModel, IsRefusal}
use Rattle.generate.specs.Made.{lines_text, made_model, made_witness}
use Rattle.moxi_scripts.specs.Behaviour.{trace_of}

-- ---- the summary

-- a line of a word and a number
abbrev pub count_line : List ℕ → ℕ → List ℕ
count_line word count = word ++ decimal count

abbrev pub summary_lines : ℕ → ℕ → ℕ → ℕ → ℕ → List (List ℕ)
summary_lines cells variables weight lines frames =
    count_line (codes "cells ") cells ∷
    count_line (codes "variables ") variables ∷
    count_line (codes "weight ") weight ∷
    count_line (codes "lines ") lines ∷
    count_line (codes "frames ") frames ∷
    codes "verdict yes" ∷ []

-- the numbers of a model, its lines and a witness of them: the variables of the flat system of its script, the tokens of the modules'
-- bodies over all instances, the lines, and the frames
unfoldable pub summary_text : ℕ → PlainSource → List Line → Witness → List ℕ
summary_text n source lines w = lines_text (summary_lines n (length (model_system source).variables) (weight_of source) (length lines) (length w.frames))

-- the run for which a witness stands: it is lifted to a trace, and that is decoded
abbrev pub run_for : PlainSource → Witness → Run
run_for source w = let envs = lifted (model_system source) w in decoded_run source (trace_of envs) (length envs - 1)

-- the verdict on this run and the invariant of the witness's bad line
abbrev pub verdict_for : PlainSource → Witness → Verdict
verdict_for source w = judged_smv source w.bad (map given (run_for source w).states) (map given (run_for source w).labels)

-- the lines' judge accepts the witness, the model's judge says yes to its run, and the text says so with the numbers
pub record IsSummary (n : ℕ) (source : PlainSource) (lines : List Line) (w : Witness) (text : List ℕ) : Type 0 where
  pub accepted : judged_btor lines w verdict.Yes
  pub broken : verdict_for source w ≡ verdict.Yes
  pub written : text ≡ summary_text n source lines w

-- ---- the answer, of a model and its lines

-- what is answered to a witness: the summary, or the step and the clause at which the lines' judge says no
abbrev pub OfWitness : ℕ → PlainSource → List Line → Witness → Answer → Type 0
OfWitness n source lines w (Done (Text text)) = IsSummary n source lines w text
OfWitness n source lines w (No step clause) = judged_btor lines w (verdict.No step clause)
OfWitness n source lines w other = ⊥

-- the answer that a text is refused as a witness of the lines
abbrev pub IsWitnessRefusal : List Line → List ℕ → Answer → Type 0
IsWitnessRefusal lines text answer = (refusal : Refusal) × IsRefused lines text (Bad refusal) × (answer ≡ SecondRefused refusal)

-- what is answered to the witness that a text spells for the lines, or the text's refusal
abbrev pub OfLines : ℕ → List ℕ → PlainSource → List Line → Answer → Type 0
OfLines n second source lines answer = ((w : Witness) × SpellsWitness lines second w × OfWitness n source lines w answer) ⊎ IsWitnessRefusal lines second answer

-- ---- the answer, for a flat form

-- something of each model that has this flat form and this weight
abbrev pub OfModels : FlatModel → (PlainSource → Type 0) → Type 0
OfModels f P = (source : PlainSource) → IsFormOf source f → f.weight ≡ weight_of source → P source

-- ---- the answer, of texts

-- what is answered to a model's text and a witness's text
abbrev pub OfTexts : ℕ → List ℕ → List ℕ → Answer → Type 0
OfTexts n model second answer = ((source : PlainSource) × IsAcceptedModel model 0 source × OfLines n second source (model_lines source) answer) ⊎ IsRefusal model 0 answer

-- what is answered to the made texts of n cells
abbrev pub IsGenerated : ℕ → Answer → Type 0
IsGenerated n answer = OfTexts n (made_model n) (made_witness n) answer

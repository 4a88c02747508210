-- The answer of a command that lifts a witness for a model's BTOR2 text.
use Rattle.std.specs.Prelude.{◌≡◌, ◌⊎◌, ℕ, List}
use Rattle.text_core.specs.Outside.{Files}
use Rattle.text_core.specs.declared.verdict.Verdict.{Verdict}
use Rattle.text_core.specs.declared.verdict.Verdict.TheVariants as verdict
use Rattle.btor_tree.specs.declared.lines.Line.{Line}
use Rattle.btor_tree.specs.Texts.{SpellsLines}
use Rattle.btor_witness.specs.declared.witness.Witness.{Witness}
use Rattle.btor_witness.specs.Judging.{judged_btor}
use Rattle.btor_witness.specs.Texts.{SpellsWitness}
use Rattle.command_core.specs.declared.answer.Answer.{Answer}
use Rattle.command_core.specs.declared.answer.Answer.TheVariants.{No, Done}
use Rattle.command_core.specs.declared.answer.Output.TheVariants.{Text}
use Rattle.command_core.specs.Reading.{ContinuesWith, file_within}
use Rattle.btor_commands.specs.Judgement.{IsWitnessRefusal, witness_too_long}
use Rattle.btor_commands.specs.Limits.{most_witness_bytes}

-- the answer for a verdict: the text to which the witness is lifted, or the step and the clause that fails
abbrev pub lift_answer : (Witness → List ℕ) → Witness → Verdict → Answer
lift_answer lifted w verdict.Yes = Done (Text (lifted w))
lift_answer lifted w (verdict.No step clause) = No step clause

abbrev pub IsLift : List Line → (Witness → List ℕ) → Witness → Answer → Type 0
IsLift lines lifted w answer = (v : Verdict) × judged_btor lines w v × (answer ≡ lift_answer lifted w v)

-- the answer for the witness that a text spells for the lines, or the text's refusal
abbrev pub OfText : List Line → (Witness → List ℕ) → List ℕ → Answer → Type 0
OfText lines lifted text answer = ((w : Witness) × SpellsWitness lines text w × IsLift lines lifted w answer) ⊎ IsWitnessRefusal lines text answer

-- the answer for the witness in the second file, for the lines that a BTOR2 text spells
abbrev pub OfLines : Files → List ℕ → List ℕ → (Witness → List ℕ) → Answer → Type 0
OfLines files second btor lifted answer =
    (lines : List Line) × SpellsLines btor lines × ContinuesWith (file_within files second most_witness_bytes witness_too_long) (OfText lines lifted) answer

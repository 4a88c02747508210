-- The answer of the judge of witnesses.
use Rattle.std.specs.Prelude.{◌≡◌, ◌⊎◌, ◌-◌, ℕ, List, length}
use Rattle.text_core.specs.Outside.{Files}
use Rattle.text_core.specs.Places.{start}
use Rattle.text_core.specs.declared.end.End.TheVariants.{Bad}
use Rattle.text_core.specs.declared.place.Kind.TheVariants.{B, X}
use Rattle.text_core.specs.declared.place.Refusal.{Refusal}
use Rattle.text_core.specs.declared.verdict.Verdict.{Verdict}
use Rattle.text_core.specs.declared.verdict.Verdict.TheVariants as verdict
use Rattle.btor_tree.specs.declared.lines.Line.{Line}
use Rattle.btor_tree.specs.Texts.{SpellsLines}
use Rattle.btor_text.specs.Answer as btor
use Rattle.btor_witness.specs.Answer as witness
use Rattle.btor_witness.specs.declared.witness.Witness.{Witness}
use Rattle.btor_witness.specs.Judging.{judged_btor}
use Rattle.btor_witness.specs.Texts.{SpellsWitness}
use Rattle.command_core.specs.declared.answer.Answer.{Answer}
use Rattle.command_core.specs.declared.answer.Answer.TheVariants.{Refused, SecondRefused, No, Done}
use Rattle.command_core.specs.declared.answer.Output.TheVariants.{Yes}
use Rattle.btor_commands.specs.Limits.{most_btor_bytes, most_witness_bytes}
use Rattle.command_core.specs.Reading.{ContinuesWith, file_within}

-- the answers for a BTOR2 text and for a witness that are too long
abbrev pub btor_too_long : Answer
btor_too_long = Refused (record { kind = B 9; place = start })

abbrev pub witness_too_long : Answer
witness_too_long = SecondRefused (record { kind = X 8; place = start })

-- the refusal of a BTOR2 text, at its first line that can't follow the lines before it
abbrev pub IsLinesRefusal : List ℕ → Answer → Type 0
IsLinesRefusal bytes answer = (refusal : Refusal) × btor.IsRefused bytes (Bad refusal) × (answer ≡ Refused refusal)

-- the refusal of a witness text, at its first line that no witness has there
abbrev pub IsWitnessRefusal : List Line → List ℕ → Answer → Type 0
IsWitnessRefusal lines text answer = (refusal : Refusal) × witness.IsRefused lines text (Bad refusal) × (answer ≡ SecondRefused refusal)

-- the answer for a verdict: the bad line and the last step, or the step and the clause that fails
abbrev pub verdict_answer : Witness → Verdict → Answer
verdict_answer w verdict.Yes = Done (Yes w.bad (length w.frames - 1))
verdict_answer w (verdict.No step clause) = No step clause

abbrev pub IsVerdict : List Line → Witness → Answer → Type 0
IsVerdict lines w answer = (v : Verdict) × judged_btor lines w v × (answer ≡ verdict_answer w v)

-- the verdict on the witness that a text spells for the lines, or the text's refusal
abbrev pub OfText : List Line → List ℕ → Answer → Type 0
OfText lines text answer = ((w : Witness) × SpellsWitness lines text w × IsVerdict lines w answer) ⊎ IsWitnessRefusal lines text answer

-- the verdict on the witness in the second file, for the lines
abbrev pub OfLines : Files → List ℕ → List Line → Answer → Type 0
OfLines files second lines answer = ContinuesWith (file_within files second most_witness_bytes witness_too_long) (OfText lines) answer

-- the verdict on the witness in the second file, for the lines that the bytes spell, or the refusal of the bytes
abbrev pub OfBytes : Files → List ℕ → List ℕ → Answer → Type 0
OfBytes files second bytes answer = ((lines : List Line) × SpellsLines bytes lines × OfLines files second lines answer) ⊎ IsLinesRefusal bytes answer

-- the verdict on the witness in the second file, for the lines in the first
abbrev pub IsJudgement : Files → List ℕ → List ℕ → Answer → Type 0
IsJudgement files model second answer = ContinuesWith (file_within files model most_btor_bytes btor_too_long) (OfBytes files second) answer

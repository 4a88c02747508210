-- A judge that is fed the bytes of a file in pieces.
use Rattle.std.specs.Prelude.{◌≡◌, ◌≤◌, ℕ, List, length, Option}
use Rattle.text_core.specs.Outside.{Files, IsFile, prefixed}
use Rattle.text_core.specs.declared.verdict.Verdict.TheVariants.{Yes, No}
use Rattle.btor_tree.specs.declared.lines.Line.{Line}
use Rattle.btor_judge.specs.declared.judge.Judge.{Judge}
use Rattle.btor_judge.specs.declared.judge.JudgeEnd.{JudgeEnd}
use Rattle.btor_judge.specs.declared.judge.JudgeEnd.TheVariants.{Judged, Bad}
use Rattle.btor_judge.specs.Judging.{Represents}
use Rattle.command_core.specs.declared.answer.Answer.{Answer}
use Rattle.command_core.specs.declared.answer.Answer.TheVariants as answer
use Rattle.command_core.specs.declared.answer.Output.TheVariants as output
use Rattle.btor_commands.specs.Judgement.{OfText}
use Rattle.btor_commands.specs.Limits.{most_witness_bytes}

-- The judge represents `count` bytes that were read. Where the bytes to read are exposed, these are a prefix of them, and the rest is left.
pub record HoldsFront (exposed : Option (List ℕ)) (lines : List Line) (judge : Judge) (count : ℕ) (left : Option (List ℕ)) : Type 0 where
  pub text : List ℕ
  pub represents : Represents lines judge text
  pub size : length text ≡ count
  pub front : exposed ≡ prefixed text left

-- The judge represents a text within the limit. Where the files are exposed, it is the text of the file.
pub record HoldsFile (files : Option Files) (name : List ℕ) (lines : List Line) (judge : Judge) : Type 0 where
  pub text : List ℕ
  pub represents : Represents lines judge text
  pub there : IsFile files name text
  pub within : length text ≤ most_witness_bytes

-- This is the answer for a text within the limit. Where the files are exposed, it is the text of the file.
pub record IsOfFile (files : Option Files) (name : List ℕ) (lines : List Line) (answer : Answer) : Type 0 where
  pub text : List ℕ
  pub there : IsFile files name text
  pub within : length text ≤ most_witness_bytes
  pub answers : OfText lines text answer

-- the answer for the result of a judge
abbrev pub judge_answer : JudgeEnd → Answer
judge_answer (Judged bad last Yes) = answer.Done (output.Yes bad last)
judge_answer (Judged bad last (No step clause)) = answer.No step clause
judge_answer (Bad refusal) = answer.SecondRefused refusal

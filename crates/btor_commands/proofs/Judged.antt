-- What a judge says of a file is what is defined of it.
use Rattle.std.proofs.Common.{◌≤◌, inl, inr, ℕ, List, [], ◌∷◌, Option, Some, None, refl, sym, ap, ◌∙◌, subst, length, arith}
use Rattle.std.specs.Prelude.{IfSome}
use Rattle.text_core.specs.Outside.{Files, IsFile}
use Rattle.text_core.specs.declared.verdict.Verdict.{Verdict}
use Rattle.text_core.specs.declared.verdict.Verdict.TheVariants.{Yes, No}
use Rattle.btor_tree.specs.declared.lines.Line.{Line}
use Rattle.btor_tree.specs.Texts.{SpellsLines}
use Rattle.btor_witness.specs.declared.witness.Witness.{Witness}
use Rattle.btor_judge.specs.Judging.{Answers, RepresentsSome, Represents}
use Rattle.btor_judge.specs.declared.judge.Judge.{Judge}
use Rattle.btor_judge.specs.declared.judge.JudgeEnd.{JudgeEnd}
use Rattle.btor_judge.specs.declared.judge.JudgeEnd.TheVariants.{Judged, Bad}
use Rattle.command_core.specs.declared.answer.Answer.{Answer}
use Rattle.command_core.specs.declared.answer.Answer.TheVariants.{Done}
use Rattle.command_core.specs.declared.answer.Output.TheVariants as output
use Rattle.btor_commands.specs.Judgement.{IsJudgement, OfText, OfBytes, btor_too_long, verdict_answer, witness_too_long}
use Rattle.btor_commands.specs.Limits.{most_btor_bytes, most_witness_bytes}
use Rattle.command_core.specs.Giving.{MayGive}
use Rattle.command_core.specs.Reading.{SaysRead}
use Rattle.btor_commands.specs.Pieces.{HoldsFile, IsOfFile, judge_answer}
use Rattle.command_core.specs.laws.Files.{gives, on_read}

of_text : (lines : List Line) (text : List ℕ) (end : JudgeEnd) → Answers lines text end → OfText lines text (judge_answer end)
of_text lines text (Judged bad last Yes) a =
    inl (a.0, a.1, (Yes, a.4, ap (λ b. Done (output.Yes b last)) (sym a.2) ∙ ap (λ n. Done (output.Yes a.0.bad n)) (omega (arith, a.3))))
of_text lines text (Judged bad last (No step clause)) a = inl (a.0, a.1, (No step clause, a.4, refl))
of_text lines text (Bad refusal) a = inr (refusal, a, refl)

-- a judge that stands for a file stands for a text
pub stands_for_some : (files : Option Files) (name : List ℕ) (lines : List Line) (judge : Judge) → HoldsFile files name lines judge → RepresentsSome lines judge
stands_for_some files name lines judge h = (h.text, h.represents)

-- what a judge says that stands for a file
pub of_file : (files : Option Files) (name : List ℕ) (lines : List Line) (judge : Judge) (end : JudgeEnd) → HoldsFile files name lines judge
    → ((text : List ℕ) → Represents lines judge text → Answers lines text end) → IsOfFile files name lines (judge_answer end)
of_file files name lines judge end h says =
    record { text = h.text; there = h.there; within = h.within; answers = of_text lines h.text end (says h.text h.represents) }

-- a verdict on a witness says neither that the words are no command nor that a file was not read
verdict_says : (w : Witness) (v : Verdict) → SaysRead (verdict_answer w v)
verdict_says w Yes = tt
verdict_says w (No step clause) = tt

text_says : (lines : List Line) (text : List ℕ) (a : Answer) → OfText lines text a → SaysRead a
text_says lines text a (inl x) = subst SaysRead (sym x.2.2) (verdict_says x.0 x.2.0)
text_says lines text a (inr r) = subst SaysRead (sym r.2) tt

defined : (files : Option Files) (second bytes : List ℕ) (lines : List Line) (a : Answer) → SpellsLines bytes lines → IsOfFile files second lines a → IfSome files (λ fs. OfBytes fs second bytes a)
defined None second bytes lines a spelled h = tt
defined (Some fs) second bytes lines a spelled h =
    inl (lines, spelled, on_read fs second h.text most_witness_bytes witness_too_long (OfText lines) a h.there h.within h.answers)

-- what is answered to the second file may be given
pub may_judge : (files : Option Files) (faulted : Type 0) (model second bytes : List ℕ) (lines : List Line) → IsFile files model bytes → length bytes ≤ most_btor_bytes → SpellsLines bytes lines
    → (a : Answer) → IsOfFile files second lines a → MayGive files (model ∷ second ∷ []) (λ fs. IsJudgement fs model second) faulted a
may_judge files faulted model second bytes lines there within spelled a h =
    gives files (model ∷ second ∷ []) faulted model bytes most_btor_bytes btor_too_long (λ fs. OfBytes fs second) there within a (text_says lines h.text a h.answers) (defined files second bytes lines a spelled h)

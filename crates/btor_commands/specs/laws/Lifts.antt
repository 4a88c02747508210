-- What follows where a witness is lifted.
use Rattle.std.proofs.Common.{inl, inr, ℕ, List, refl, sym, subst}
use Rattle.text_core.specs.declared.verdict.Clause.{Clause}
use Rattle.text_core.specs.declared.verdict.Verdict.{Verdict}
use Rattle.text_core.specs.declared.verdict.Verdict.TheVariants.{Yes, No}
use Rattle.btor_tree.specs.declared.lines.Line.{Line}
use Rattle.btor_witness.specs.declared.witness.Witness.{Witness}
use Rattle.btor_witness.specs.Judging.{judged_btor}
use Rattle.command_core.specs.declared.answer.Answer.{Answer}
use Rattle.command_core.specs.declared.answer.Answer.TheVariants as answer
use Rattle.command_core.specs.Reading.{SaysRead}
use Rattle.btor_commands.specs.Lifting.{IsLift, OfText, lift_answer}

lift_says : (lifted : Witness → List ℕ) (w : Witness) (v : Verdict) → SaysRead (lift_answer lifted w v)
lift_says lifted w Yes = tt
lift_says lifted w (No step clause) = tt

-- a lift says neither that the words are no command nor that a file was not read
pub says : (lines : List Line) (lifted : Witness → List ℕ) (text : List ℕ) (a : Answer) → OfText lines lifted text a → SaysRead a
says lines lifted text a (inl x) = subst SaysRead (sym x.2.2) (lift_says lifted x.0 x.2.0)
says lines lifted text a (inr r) = subst SaysRead (sym r.2) tt

-- a witness of which the judge says no is answered so
pub rejected : (lines : List Line) (lifted : Witness → List ℕ) (w : Witness) (step : ℕ) (clause : Clause) → judged_btor lines w (No step clause) → IsLift lines lifted w (answer.No step clause)
rejected lines lifted w step clause judged = (No step clause, judged, refl)

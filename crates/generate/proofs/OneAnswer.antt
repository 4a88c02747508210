-- The made texts define one answer.
use Rattle.std.proofs.Common.{◌≡◌, inl, inr, ℕ, List, sym, ap, ◌∙◌, subst}
use Rattle.text_core.specs.declared.verdict.Clause.{Clause}
use Rattle.text_core.specs.declared.verdict.Verdict.{Verdict}
use Rattle.text_core.specs.declared.verdict.Verdict.TheVariants as verdict
use Rattle.btor_tree.specs.declared.lines.Line.{Line}
use Rattle.btor_tree.specs.Fits.{IsWellFormed}
use Rattle.btor_witness.specs.declared.witness.Witness.{Witness}
use Rattle.btor_witness.specs.laws.Verdicts.{one_verdict}
use Rattle.btor_witness.specs.laws.Laws.{same_refusal, one_witness, not_both}
use Rattle.smv_text.specs.Tree.{PlainSource}
use Rattle.witness_lift.specs.LineLaws.{ModelLinesAreLaidOut, model_lines}
use Rattle.command_core.specs.declared.answer.Answer.{Answer}
use Rattle.command_core.specs.declared.answer.Answer.TheVariants.{Usage, Refused, SecondRefused, No, Done}
use Rattle.command_core.specs.declared.answer.Output.TheVariants.{Text}
use Rattle.command_core.specs.Reading.{SaysRead}
use Rattle.smv_models.specs.Models.{IsAcceptedModel}
use Rattle.smv_models.proofs.Checked.{not_checked, one_check_refusal}
use Rattle.smv_models.proofs.Sources.{same_model}
use Rattle.text_core.specs.Places.{start, after}
use Rattle.generate.specs.Made.{made_model, made_witness}
use Rattle.generate.specs.Generating.{IsGenerated, OfLines, OfTexts, OfWitness}

-- ---- one answer

-- what is answered to a verdict that is no Yes
answer_of : Verdict → Answer
answer_of verdict.Yes = Usage
answer_of (verdict.No step clause) = No step clause

yes_no : (step : ℕ) (clause : Clause) → verdict.Yes ≡ verdict.No step clause → ⊥
yes_no step clause e = absurd (cc)

one_of_witness : (n : ℕ) (source : PlainSource) (lines : List Line) → IsWellFormed lines → (w : Witness) (a b : Answer) → OfWitness n source lines w a → OfWitness n source lines w b → a ≡ b
unfolding answer_of
one_of_witness n source lines well w (Done (Text s)) (Done (Text t)) h k = ap (λ x. Done (Text x)) (h.written ∙ sym k.written)
one_of_witness n source lines well w (Done (Text s)) (No step clause) h k = absurd (yes_no step clause (one_verdict lines w verdict.Yes (verdict.No step clause) well h.accepted k))
one_of_witness n source lines well w (Done (Text s)) b h k = absurd k
one_of_witness n source lines well w (No step clause) (Done (Text t)) h k = absurd (yes_no step clause (one_verdict lines w verdict.Yes (verdict.No step clause) well k.accepted h))
one_of_witness n source lines well w (No step clause) (No other behind) h k = ap answer_of (one_verdict lines w (verdict.No step clause) (verdict.No other behind) well h k)
one_of_witness n source lines well w (No step clause) b h k = absurd k
one_of_witness n source lines well w a b h k = absurd h

one_of_lines : (n : ℕ) (second : List ℕ) (source : PlainSource) (lines : List Line) → IsWellFormed lines → (a b : Answer) → OfLines n second source lines a → OfLines n second source lines b → a ≡ b
one_of_lines n second source lines well a b (inl x) (inl y) =
    one_of_witness n source lines well y.0 a b (subst (λ w. OfWitness n source lines w a) (one_witness lines second x.0 y.0 x.1 y.1) x.2) y.2
one_of_lines n second source lines well a b (inl x) (inr r) = absurd (not_both lines second x.0 r.0.kind r.0.place.line x.1 r.1.0)
one_of_lines n second source lines well a b (inr r) (inl y) = absurd (not_both lines second y.0 r.0.kind r.0.place.line y.1 r.1.0)
one_of_lines n second source lines well a b (inr r) (inr q) = r.2 ∙ ap SecondRefused (same_refusal lines second r.0 q.0 r.1 q.1) ∙ sym q.2

module _ (laid : ModelLinesAreLaidOut) where
  well_formed : (bytes : List ℕ) (source : PlainSource) → IsAcceptedModel bytes 0 source → IsWellFormed (model_lines source)
  well_formed bytes source a = (laid source (after start bytes) bytes a.is_model.tokens a.is_model.lexed a.is_model.spelled 0 a.accepted a.is_model.low).laid.well_formed

  one_of_texts : (n : ℕ) (model second : List ℕ) (a b : Answer) → OfTexts n model second a → OfTexts n model second b → a ≡ b
  one_of_texts n model second a b (inl x) (inl y) =
      one_of_lines n second y.0 (model_lines y.0) (well_formed model y.0 y.1) a b
      (subst (λ (s : PlainSource). OfLines n second s (model_lines s) a) (same_model model x.0 y.0 x.1.is_model y.1.is_model) x.2) y.2
  one_of_texts n model second a b (inl x) (inr r) = absurd (not_checked model 0 r.0 x.0 r.1 x.1)
  one_of_texts n model second a b (inr r) (inl y) = absurd (not_checked model 0 r.0 y.0 r.1 y.1)
  one_of_texts n model second a b (inr r) (inr q) = r.2 ∙ ap Refused (one_check_refusal model 0 r.0 q.0 r.1 q.1) ∙ sym q.2

  pub one_generated : (n : ℕ) (a b : Answer) → IsGenerated n a → IsGenerated n b → a ≡ b
  one_generated n a b h k = one_of_texts n (made_model n) (made_witness n) a b h k

-- ---- what it says

witness_says : (n : ℕ) (source : PlainSource) (lines : List Line) (w : Witness) (a : Answer) → OfWitness n source lines w a → SaysRead a
witness_says n source lines w (Done (Text text)) h = tt
witness_says n source lines w (No step clause) h = tt
witness_says n source lines w a h = absurd h

lines_say : (n : ℕ) (second : List ℕ) (source : PlainSource) (lines : List Line) (a : Answer) → OfLines n second source lines a → SaysRead a
lines_say n second source lines a (inl x) = witness_says n source lines x.0 a x.2
lines_say n second source lines a (inr r) = subst SaysRead (sym r.2) tt

-- neither that the words are no command nor that a file was not read
pub generated_says : (n : ℕ) (a : Answer) → IsGenerated n a → SaysRead a
generated_says n a (inl x) = lines_say n (made_witness n) x.0 (model_lines x.0) a x.2
generated_says n a (inr r) = subst SaysRead (sym r.2) tt

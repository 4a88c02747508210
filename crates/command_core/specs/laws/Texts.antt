-- What follows where an answer is a text, or a refusal in its place.
use Rattle.std.proofs.Common.{◌≡◌, ℕ, List, Result, Ok, Err, sym, ap, subst}
use Rattle.std.specs.Prelude.{IfOk, IfErr}
use Rattle.text_core.specs.declared.end.End.{End}
use Rattle.text_core.specs.declared.end.End.TheVariants.{Bad, NoMemory}
use Rattle.text_core.specs.declared.place.Refusal.{Refusal}
use Rattle.command_core.specs.declared.answer.Answer.{Answer}
use Rattle.command_core.specs.declared.answer.Answer.TheVariants.{Refused, Done}
use Rattle.command_core.specs.declared.answer.Output.TheVariants.{Text}
use Rattle.command_core.specs.declared.answer.Stop.{Stop}
use Rattle.command_core.specs.declared.status.Status.TheVariants as status
use Rattle.command_core.specs.Answers.{status_of, text_of}
use Rattle.command_core.specs.Reading.{SaysRead, StopsWith}
use Rattle.command_core.specs.Texts.{IsTextOr, text_answer}

module _ (written : List ℕ → Type 0) (refused : Refusal → Type 0) where
  -- it says neither that the words are no command nor that a file was not read
  pub text_says : (a : Answer) → IsTextOr written refused a → SaysRead a
  text_says (Refused refusal) h = tt
  text_says (Done (Text text)) h = tt
  text_says a h = absurd h

  -- there is one such answer, where there is one text, one refusal, and not both
  pub one_answer : ((x y : List ℕ) → written x → written y → x ≡ y) → ((r q : Refusal) → refused r → refused q → r ≡ q) → ((x : List ℕ) (r : Refusal) → written x → refused r → ⊥)
      → (a b : Answer) → IsTextOr written refused a → IsTextOr written refused b → a ≡ b
  one_answer once again both (Refused r) (Refused q) h k = ap Refused (again r q h k)
  one_answer once again both (Refused r) (Done (Text x)) h k = absurd (both x r k h)
  one_answer once again both (Refused r) b h k = absurd k
  one_answer once again both (Done (Text x)) (Refused r) h k = absurd (both x r h k)
  one_answer once again both (Done (Text x)) (Done (Text y)) h k = ap (λ t. Done (Text t)) (once x y h k)
  one_answer once again both (Done (Text x)) b h k = absurd k
  one_answer once again both a b h k = absurd h

  -- what is written for it was a text
  pub done_text : (a : Answer) → IsTextOr written refused a → status_of a ≡ status.Done → written (text_of a)
  done_text (Done (Text text)) h s = h
  done_text (Refused refusal) h s = absurd (cc)
  done_text a h s = absurd h

  -- a text that was made, or its refusal, is answered
  pub text_ok : (E : End → Type 0) (text : Result (List ℕ) End) (result : Result Answer Stop) → ((refusal : Refusal) → E (Bad refusal) → refused refusal) → IfOk text written → IfErr text E → result ≡ text_answer text → IfOk result (IsTextOr written refused)
  text_ok E (Ok t) result as_refused h k e = subst (λ r. IfOk r (IsTextOr written refused)) (sym e) h
  text_ok E (Err (Bad refusal)) result as_refused h k e = subst (λ r. IfOk r (IsTextOr written refused)) (sym e) (as_refused refusal k)
  text_ok E (Err NoMemory) result as_refused h k e = subst (λ r. IfOk r (IsTextOr written refused)) (sym e) tt

-- without a text or a refusal there was no memory
pub text_stop : (P : Answer → Type 0) (text : Result (List ℕ) End) (result : Result Answer Stop) → result ≡ text_answer text → IfErr result (StopsWith P)
text_stop P (Ok t) result e = subst (λ r. IfErr r (StopsWith P)) (sym e) tt
text_stop P (Err (Bad refusal)) result e = subst (λ r. IfErr r (StopsWith P)) (sym e) tt
text_stop P (Err NoMemory) result e = subst (λ r. IfErr r (StopsWith P)) (sym e) tt

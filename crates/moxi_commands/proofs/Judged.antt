-- What is answered to a response is what is defined of it, and files define one such answer.
use Rattle.std.proofs.Common.{◌≡◌, inl, inr, ℕ, List, Option, None, Result, sym, ap, ◌∙◌, subst}
use Rattle.std.specs.Prelude.{IfOk, IfErr}
use Rattle.text_core.specs.Outside.{Files}
use Rattle.moxi_scripts.specs.Script.{PlainScript}
use Rattle.moxi_flat.specs.Limits.{flat_refusal}
use Rattle.command_core.specs.declared.answer.Answer.{Answer}
use Rattle.command_core.specs.declared.answer.Answer.TheVariants as answer
use Rattle.command_core.specs.declared.answer.Stop.{Stop}
use Rattle.command_core.specs.Giving.{MayGive}
use Rattle.command_core.specs.Reading.{StopsWith, file_within}
use Rattle.command_core.specs.laws.Files.{goes_once}
use Rattle.command_core.specs.laws.Given.{follows_ok, follows_stop}
use Rattle.moxi_commands.specs.Limits.{most_script_bytes, most_response_bytes}
use Rattle.moxi_commands.specs.Scripts.{IsScriptText, script_too_long}
use Rattle.moxi_commands.specs.Judgement.{IsMoxiJudgement, OfBytes, OfChecks, OfScript, OfText, response_too_long}
use Rattle.moxi_commands.proofs.Refused.{not_refused, one_system_refusal, same_script}

-- ---- one answer

one_of_script : (files : Files) (second : List ℕ) (s : PlainScript) (a b : Answer) → OfScript files second s a → OfScript files second s b → a ≡ b
one_of_script files second s a b h k =
    goes_once (file_within files second most_response_bytes response_too_long) (OfText s) (λ text a b h k. h ∙ sym k) a b h k

one_of_bytes : (files : Files) (second bytes : List ℕ) (a b : Answer) → OfBytes files second bytes a → OfBytes files second bytes b → a ≡ b
one_of_bytes files second bytes a b (inl x) (inl y) =
    one_of_script files second y.0 a b (subst (λ s. OfScript files second s a) (same_script bytes x.0 y.0 x.1 y.1) x.3) y.3
one_of_bytes files second bytes a b (inl x) (inr r) = absurd (not_refused bytes r.0 x.0 r.1 x.1 x.2)
one_of_bytes files second bytes a b (inr r) (inl y) = absurd (not_refused bytes r.0 y.0 r.1 y.1 y.2)
one_of_bytes files second bytes a b (inr r) (inr q) = r.2 ∙ ap answer.Refused (one_system_refusal bytes r.0 q.0 r.1 q.1) ∙ sym q.2

-- files define one judgement of a response
pub one_moxi_judgement : (files : Files) (model second : List ℕ) (a b : Answer) → IsMoxiJudgement files model second a → IsMoxiJudgement files model second b → a ≡ b
one_moxi_judgement files model second a b h k =
    goes_once (file_within files model most_script_bytes script_too_long) (OfBytes files second) (λ bytes a b h k. one_of_bytes files second bytes a b h k) a b h k

-- ---- what is answered to a script is answered to its bytes

module _ (files : Option Files) (names : List (List ℕ)) (faulted : Type 0) (second : List ℕ) (s : PlainScript) where
  pub checks_ok : {E : Type 0} (result : Result Answer E) → flat_refusal s ≡ None → IfOk result (MayGive files names (λ fs. OfScript fs second s) faulted) → IfOk result (MayGive files names (λ fs. OfChecks fs second s) faulted)
  checks_ok result accepted h = follows_ok files names faulted (λ fs. OfScript fs second s) (λ fs. OfChecks fs second s) result (λ fs a k. inl (accepted, k)) h

  pub checks_stop : {T : Type 0} (result : Result T Stop) → flat_refusal s ≡ None → IfErr result (StopsWith (MayGive files names (λ fs. OfScript fs second s) faulted)) → IfErr result (StopsWith (MayGive files names (λ fs. OfChecks fs second s) faulted))
  checks_stop result accepted h = follows_stop files names faulted (λ fs. OfScript fs second s) (λ fs. OfChecks fs second s) result (λ fs a k. inl (accepted, k)) h

  of_bytes : (bytes : List ℕ) → IsScriptText bytes s → (fs : Files) (a : Answer) → OfChecks fs second s a → OfBytes fs second bytes a
  of_bytes bytes is fs a (inl x) = inl (s, is, x.0, x.1)
  of_bytes bytes is fs a (inr r) = inr (r.0, inr (s, is, r.1), r.2)

  pub bytes_ok : {E : Type 0} (bytes : List ℕ) (result : Result Answer E) → IsScriptText bytes s → IfOk result (MayGive files names (λ fs. OfChecks fs second s) faulted) → IfOk result (MayGive files names (λ fs. OfBytes fs second bytes) faulted)
  bytes_ok bytes result is h = follows_ok files names faulted (λ fs. OfChecks fs second s) (λ fs. OfBytes fs second bytes) result (of_bytes bytes is) h

  pub bytes_stop : {T : Type 0} (bytes : List ℕ) (result : Result T Stop) → IsScriptText bytes s → IfErr result (StopsWith (MayGive files names (λ fs. OfChecks fs second s) faulted))
      → IfErr result (StopsWith (MayGive files names (λ fs. OfBytes fs second bytes) faulted))
  bytes_stop bytes result is h = follows_stop files names faulted (λ fs. OfChecks fs second s) (λ fs. OfBytes fs second bytes) result (of_bytes bytes is) h

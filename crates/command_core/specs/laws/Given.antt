-- What may be given where files define it.
use Rattle.std.proofs.Common.{inl, inr, ℕ, List, Option, Some, None, Result, Ok, Err}
use Rattle.std.specs.Prelude.{IfOk, IfErr, IfSome}
use Rattle.text_core.specs.Outside.{Files}
use Rattle.command_core.specs.declared.answer.Answer.{Answer}
use Rattle.command_core.specs.declared.answer.Answer.TheVariants.{Usage, Unread, Refused, SecondRefused, No, Done}
use Rattle.command_core.specs.declared.answer.Stop.{Stop}
use Rattle.command_core.specs.declared.answer.Stop.TheVariants.{Answered, NoMemory}
use Rattle.command_core.specs.Giving.{IsAmong, IfExposed, MayGive}
use Rattle.command_core.specs.Reading.{StopsWith}

-- what holds of all files holds of those that are exposed
pub of_each : {P : Files → Type 0} (files : Option Files) → ((fs : Files) → P fs) → IfSome files P
of_each None h = tt
of_each (Some fs) h = h fs

exposed_so : (files : Option Files) (P Q : Files → Type 0) → IfSome files (λ fs. P fs → Q fs) → IfExposed files P → IfExposed files Q
exposed_so None P Q so h = h
exposed_so (Some fs) P Q so h = so h

some_so : (files : Option Files) (P Q : Files → Type 0) → IfSome files (λ fs. P fs → Q fs) → IfSome files P → IfSome files Q
some_so None P Q so h = tt
some_so (Some fs) P Q so h = so h

at_answer : (files : Option Files) (P Q : Files → Answer → Type 0) (a : Answer) → IfSome files (λ fs. (a : Answer) → P fs a → Q fs a) → IfSome files (λ fs. P fs a → Q fs a)
at_answer None P Q a so = tt
at_answer (Some fs) P Q a so = so a

-- what may be given where files define it, where it follows that they define another thing so
module _ (files : Option Files) (names others : List (List ℕ)) (faulted more : Type 0) (P Q : Files → Answer → Type 0) (wider : (name : List ℕ) → IsAmong names name → IsAmong others name) (up : faulted → more) (so : IfSome files (λ fs. (a : Answer) → P fs a → Q fs a)) where
  pub also_given : (a : Answer) → MayGive files names P faulted a → MayGive files others Q more a
  also_given Usage h = h
  also_given (Unread name) h =
      (wider name h.0, elim h.1 [ inl r ↦ inl (up r) | inr t ↦ inr (exposed_so files (λ fs. P fs (Unread name)) (λ fs. Q fs (Unread name)) (at_answer files P Q (Unread name) so) t) ])
  also_given (Refused refusal) h = some_so files (λ fs. P fs (Refused refusal)) (λ fs. Q fs (Refused refusal)) (at_answer files P Q (Refused refusal) so) h
  also_given (SecondRefused refusal) h = some_so files (λ fs. P fs (SecondRefused refusal)) (λ fs. Q fs (SecondRefused refusal)) (at_answer files P Q (SecondRefused refusal) so) h
  also_given (No step clause) h = some_so files (λ fs. P fs (No step clause)) (λ fs. Q fs (No step clause)) (at_answer files P Q (No step clause) so) h
  also_given (Done output) h = some_so files (λ fs. P fs (Done output)) (λ fs. Q fs (Done output)) (at_answer files P Q (Done output) so) h

  pub also_ok : {E : Type 0} (result : Result Answer E) → IfOk result (MayGive files names P faulted) → IfOk result (MayGive files others Q more)
  also_ok (Ok a) h = also_given a h
  also_ok (Err e) h = tt

  pub also_stops : (stop : Stop) → StopsWith (MayGive files names P faulted) stop → StopsWith (MayGive files others Q more) stop
  also_stops (Answered a) h = also_given a h
  also_stops NoMemory h = tt

  pub also_stop : {T : Type 0} (result : Result T Stop) → IfErr result (StopsWith (MayGive files names P faulted)) → IfErr result (StopsWith (MayGive files others Q more))
  also_stop (Ok x) h = tt
  also_stop (Err stop) h = also_stops stop h

-- the same of the same names, where it follows for all files
pub follows_ok : {E : Type 0} (files : Option Files) (names : List (List ℕ)) (faulted : Type 0) (P Q : Files → Answer → Type 0) (result : Result Answer E) → ((fs : Files) (a : Answer) → P fs a → Q fs a)
    → IfOk result (MayGive files names P faulted) → IfOk result (MayGive files names Q faulted)
follows_ok files names faulted P Q result so h = also_ok files names names faulted faulted P Q (λ name is. is) (λ r. r) (of_each files so) result h

pub follows_stop : {T : Type 0} (files : Option Files) (names : List (List ℕ)) (faulted : Type 0) (P Q : Files → Answer → Type 0) (result : Result T Stop) → ((fs : Files) (a : Answer) → P fs a → Q fs a)
    → IfErr result (StopsWith (MayGive files names P faulted)) → IfErr result (StopsWith (MayGive files names Q faulted))
follows_stop files names faulted P Q result so h = also_stop files names names faulted faulted P Q (λ name is. is) (λ r. r) (of_each files so) result h

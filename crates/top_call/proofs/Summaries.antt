-- What is answered of the made texts of a number of cells.
use Rattle.std.proofs.Common.{◌≡◌, ◌≢◌, ◌&&◌, refl, inl, inr, ℕ, Bool, true, false, List, [], ◌∷◌, Option, Some, None, Result, Ok, Err, sym, ap, ◌∙◌, subst, arith}
use Rattle.std.proofs.lemmas.Option.{same_Some}
use Rattle.std.specs.Prelude.{IfOk, IfSome, nat_le, option_and_then, option_map, if◌then◌else◌}
use Rattle.text_core.specs.Outside.{Files, grown}
use Rattle.command_core.specs.declared.answer.Answer.{Answer}
use Rattle.command_core.specs.declared.answer.Answer.TheVariants.{Usage, Unread, Refused, SecondRefused, No, Done}
use Rattle.command_core.specs.declared.answer.Output.TheVariants.{Text, Yes, Broken, Met}
use Rattle.command_core.specs.declared.answer.Stop.TheVariants as stop
use Rattle.command_core.specs.declared.status.Status.TheVariants as status
use Rattle.command_core.specs.Answers.{status_of, text_of}
use Rattle.command_core.specs.Reading.{SaysRead}
use Rattle.command_core.specs.laws.Files.{whatever_exposed}
use Rattle.command_core.specs.Numbers.{countable, decimal_number}
use Rattle.command_core.specs.Words.{PlainWords, words_of}
use Rattle.generate.specs.Generating.{IsGenerated}
use Rattle.generate.proofs.OneAnswer.{generated_says}
use Rattle.top_call.specs.declared.words.Command.{Command}
use Rattle.top_call.specs.declared.words.Command.TheVariants.{Generate}
use Rattle.top_call.specs.declared.words.Task.{Task}
use Rattle.top_call.specs.declared.words.Task.TheVariants as task
use Rattle.top_call.specs.Outcome.{MayAnswer}
use Rattle.top_call.specs.Summaries.{IsSummarized}
use Rattle.top_call.specs.Words.{IsInRange, command_by, command_from, command_of, command_with, commands, on_one, on_two, task_in}

-- ---- the number of cells

by_range : (n : ℕ) (a b : Bool) → nat_le 1 n ≡ a → nat_le n 1000 ≡ b → IfSome (option_map Generate (if a && b then Some n else None)) IsInRange
by_range n true true e f = (grind (arith, e), grind (arith, f))
by_range n true false e f = tt
by_range n false b e f = tt

counted : (n : Option ℕ) → IfSome (option_map Generate (option_and_then countable n)) IsInRange
counted None = tt
counted (Some n) = by_range n (nat_le 1 n) (nat_le n 1000) refl refl

one_in_range : (t : Task) (word : List ℕ) → IfSome (on_one t word) IsInRange
one_in_range task.SmvToBtor word = tt
one_in_range task.SmvToMoxi word = tt
one_in_range task.MoxiToBtor word = tt
one_in_range task.BtorToMoxi word = tt
one_in_range task.Simplify word = tt
one_in_range task.JudgeBtor word = tt
one_in_range task.JudgeSmv word = tt
one_in_range task.JudgeMoxi word = tt
one_in_range task.LiftSmv word = tt
one_in_range task.LiftMoxi word = tt
one_in_range task.Lower word = tt
one_in_range task.Generate word = counted (decimal_number 4 word)

two_in_range : (t : Task) (model second : List ℕ) (property : Option ℕ) → IfSome (on_two t model second property) IsInRange
two_in_range task.SmvToBtor model second property = tt
two_in_range task.SmvToMoxi model second property = tt
two_in_range task.MoxiToBtor model second property = tt
two_in_range task.BtorToMoxi model second property = tt
two_in_range task.Simplify model second property = tt
two_in_range task.JudgeBtor model second None = tt
two_in_range task.JudgeBtor model second (Some j) = tt
two_in_range task.JudgeSmv model second None = tt
two_in_range task.JudgeSmv model second (Some j) = tt
two_in_range task.JudgeMoxi model second None = tt
two_in_range task.JudgeMoxi model second (Some j) = tt
two_in_range task.LiftSmv model second None = tt
two_in_range task.LiftSmv model second (Some j) = tt
two_in_range task.LiftMoxi model second None = tt
two_in_range task.LiftMoxi model second (Some j) = tt
two_in_range task.Lower model second None = tt
two_in_range task.Lower model second (Some j) = tt
two_in_range task.Generate model second property = tt

with_in_range : (t : Task) (places : List (List ℕ)) (property : Option ℕ) → IfSome (command_with t places property) IsInRange
with_in_range t [] property = tt
with_in_range t (word ∷ []) None = one_in_range t word
with_in_range t (word ∷ []) (Some j) = tt
with_in_range t (model ∷ second ∷ []) property = two_in_range t model second property
with_in_range t (model ∷ second ∷ third ∷ more) property = tt

task_in_range : (t : Option Task) (places : List (List ℕ)) (property : Option ℕ) → IfSome (option_and_then (λ t. command_with t places property) t) IsInRange
task_in_range None places property = tt
task_in_range (Some t) places property = with_in_range t places property

by_in_range : (words : List (List ℕ)) (property : Option ℕ) → IfSome (command_by words property) IsInRange
by_in_range [] property = tt
by_in_range (word ∷ places) property = task_in_range (task_in commands word) places property

from_in_range : (words : Option PlainWords) → IfSome (option_and_then command_from words) IsInRange
from_in_range None = tt
from_in_range (Some given) = by_in_range given.positionals given.property

-- the number of cells of a command is one of those that are made
pub in_range : (words : List (List ℕ)) (command : Command) → Some command ≡ command_of words → IsInRange command
in_range words command e = subst (λ c. IfSome c IsInRange) (sym e) (from_in_range (words_of words))

-- ---- the answer

pub generated_given : (files : Option Files) (faulted : Type 0) (n : ℕ) (a : Answer) → IsGenerated n a → MayAnswer files (Some (Generate n)) faulted a
generated_given files faulted n a h = by_answer a (generated_says n a h) h
  where
    by_answer : (a : Answer) → SaysRead a → IsGenerated n a → MayAnswer files (Some (Generate n)) faulted a
    by_answer Usage says h = absurd says
    by_answer (Unread name) says h = absurd says
    by_answer (Refused refusal) says h = whatever_exposed files h
    by_answer (SecondRefused refusal) says h = whatever_exposed files h
    by_answer (No step clause) says h = whatever_exposed files h
    by_answer (Done output) says h = whatever_exposed files h

pub generated_ok : {E : Type 0} (files : Option Files) (faulted : Type 0) (n : ℕ) (result : Result Answer E) → IfOk result (IsGenerated n) → IfOk result (MayAnswer files (Some (Generate n)) faulted)
generated_ok files faulted n (Ok a) h = generated_given files faulted n a h
generated_ok files faulted n (Err e) h = tt

refused_not_done : {P : Type 0} (a b : Answer) → status_of a ≡ status.Done → a ≡ b → status_of b ≢ status.Done → P
refused_not_done a b s e n = absurd (n (sym (ap status_of e) ∙ s))

pub summarized : (n : ℕ) (b : Answer) (before now : Option (List ℕ)) → IsGenerated n b → status_of b ≡ status.Done → now ≡ grown before (text_of b) → IsSummarized n before now
summarized n (Done (Text text)) before now h s w = record { text = text; written = w; summary = h }
summarized n (Done (Yes bad step)) before now (inl (source, is, inl x)) s w = absurd x.2
summarized n (Done (Broken j step)) before now (inl (source, is, inl x)) s w = absurd x.2
summarized n (Done (Met symbol step)) before now (inl (source, is, inl x)) s w = absurd x.2
summarized n (Done (Yes bad step)) before now (inl (source, is, inr r)) s w = refused_not_done (Done (Yes bad step)) (SecondRefused r.0) s r.2 (λ e. absurd (cc))
summarized n (Done (Broken j step)) before now (inl (source, is, inr r)) s w = refused_not_done (Done (Broken j step)) (SecondRefused r.0) s r.2 (λ e. absurd (cc))
summarized n (Done (Met symbol step)) before now (inl (source, is, inr r)) s w = refused_not_done (Done (Met symbol step)) (SecondRefused r.0) s r.2 (λ e. absurd (cc))
summarized n (Done (Yes bad step)) before now (inr r) s w = refused_not_done (Done (Yes bad step)) (Refused r.0) s r.2 (λ e. absurd (cc))
summarized n (Done (Broken j step)) before now (inr r) s w = refused_not_done (Done (Broken j step)) (Refused r.0) s r.2 (λ e. absurd (cc))
summarized n (Done (Met symbol step)) before now (inr r) s w = refused_not_done (Done (Met symbol step)) (Refused r.0) s r.2 (λ e. absurd (cc))
summarized n Usage before now h s w = absurd (cc)
summarized n (Unread name) before now h s w = absurd (cc)
summarized n (Refused refusal) before now h s w = absurd (cc)
summarized n (SecondRefused refusal) before now h s w = absurd (cc)
summarized n (No step clause) before now h s w = absurd (cc)

-- what is made of nothing doesn't stop with an answer
pub generated_stop : (n : ℕ) (a : Answer) → stop.Answered a ≡ stop.NoMemory → IsGenerated n a
generated_stop n a e = absurd (cc)

-- the command that was read is the one that the words are
pub same_count : (words : List (List ℕ)) (command : Command) (n : ℕ) → Some command ≡ command_of words → command_of words ≡ Some (Generate n) → command ≡ Generate n
same_count words command n e f = same_Some command (Generate n) (e ∙ f)

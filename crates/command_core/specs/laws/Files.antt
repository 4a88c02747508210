-- What follows from the bytes of a file.
use Rattle.std.proofs.Common.{◌≡◌, ◌≤◌, ℕ, Bool, true, false, List, Option, Some, None, Result, Ok, Err, refl, sym, ap, ◌∙◌, subst, cond, arith, length}
use Rattle.std.specs.Prelude.{IfSome, nat_lt}
use Rattle.text_core.specs.Outside.{Files, IsFile, file_at}
use Rattle.command_core.specs.declared.answer.Answer.{Answer}
use Rattle.command_core.specs.declared.answer.Answer.TheVariants.{Usage, Unread}
use Rattle.command_core.specs.declared.status.Status.TheVariants as status
use Rattle.command_core.specs.Answers.{status_of}
use Rattle.command_core.specs.Giving.{MayGive}
use Rattle.command_core.specs.Reading.{ContinuesWith, SaysRead, file_within, within_limit}

-- the bytes of a file that is there and within its limit
pub on_read : (fs : Files) (name bytes : List ℕ) (limit : ℕ) (longer : Answer) (next : List ℕ → Answer → Type 0) (a : Answer) → file_at fs name ≡ Some bytes → length bytes ≤ limit → next bytes a → ContinuesWith (file_within fs name limit longer) next a
on_read fs name bytes limit longer next a there within h =
    let e : nat_lt limit (length bytes) ≡ false = grind (arith, within) in
    let step : file_within fs name limit longer ≡ Ok bytes = ap (λ content. within_limit content name limit longer) there ∙ ap (λ long. cond long (Err longer) (Ok bytes)) e in
    subst (λ s. ContinuesWith s next a) (sym step) h

-- what files define goes on once
pub goes_once : (step : Result (List ℕ) Answer) (next : List ℕ → Answer → Type 0) → ((bytes : List ℕ) (a b : Answer) → next bytes a → next bytes b → a ≡ b) → (a b : Answer) → ContinuesWith step next a → ContinuesWith step next b → a ≡ b
goes_once (Ok bytes) next once a b h k = once bytes a b h k
goes_once (Err instead) next once a b h k = h ∙ sym k

pub whatever_exposed : {P : Type 0} (files : Option Files) → P → IfSome files (λ fs. P)
whatever_exposed None p = tt
whatever_exposed (Some fs) p = p

-- the answer to a file's bytes may be given
pub gives : (files : Option Files) (names : List (List ℕ)) (faulted : Type 0) (model bytes : List ℕ) (limit : ℕ) (longer : Answer) (next : Files → List ℕ → Answer → Type 0) → IsFile files model bytes → length bytes ≤ limit
    → (a : Answer) → SaysRead a → IfSome files (λ fs. next fs bytes a) → MayGive files names (λ fs b. ContinuesWith (file_within fs model limit longer) (next fs) b) faulted a
gives files names faulted model bytes limit longer next there within Usage says h = absurd says
gives files names faulted model bytes limit longer next there within (Unread name) says h = absurd says
gives None names faulted model bytes limit longer next there within a says h = tt
gives (Some fs) names faulted model bytes limit longer next there within a says h = on_read fs model bytes limit longer (next fs) a there within h

-- what was written whole was made of a file's bytes
made_from : {S : Type 0} (model : List ℕ) (content : Option (List ℕ)) (limit : ℕ) (longer : Answer) (next : List ℕ → Answer → Type 0) (b : Answer) → status_of longer ≡ status.Refused
    → ContinuesWith (within_limit content model limit longer) next b → status_of b ≡ status.Done → ((bytes : List ℕ) → content ≡ Some bytes → next bytes b → S) → S
made_from model None limit longer next b refuses h s go = let e : status.ReadFault ≡ status.Done = sym (ap status_of h) ∙ s in absurd (cc)
made_from {S} model (Some bytes) limit longer next b refuses h s go = by_length (nat_lt limit (length bytes)) h
  where
    by_length : (long : Bool) → ContinuesWith (cond long (Err longer) (Ok bytes)) next b → S
    by_length true g = let e : status.Refused ≡ status.Done = sym refuses ∙ (sym (ap status_of g) ∙ s) in absurd (cc)
    by_length false g = go bytes refl g

pub done_from : {S : Type 0} (fs : Files) (model : List ℕ) (limit : ℕ) (longer : Answer) (next : List ℕ → Answer → Type 0) (b : Answer) → status_of longer ≡ status.Refused
    → ContinuesWith (file_within fs model limit longer) next b → status_of b ≡ status.Done → ((bytes : List ℕ) → file_at fs model ≡ Some bytes → next bytes b → S) → S
done_from fs model limit longer next b refuses h s go = made_from model (file_at fs model) limit longer next b refuses h s go

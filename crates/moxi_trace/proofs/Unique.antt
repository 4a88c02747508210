-- Each text comes to one result.
use Rattle.std.proofs.Common.{◌≡◌, ◌⊎◌, ℕ, List, Result, Ok, Err, inl, inr, refl}
use Rattle.text_core.specs.declared.place.Refusal.{Refusal}
use Rattle.moxi_trace.specs.declared.point.Answered.{Answered}
use Rattle.moxi_trace.specs.Traces.{Declared}
use Rattle.moxi_trace.specs.Responses.{response_of, ReadsResponse, RefusesResponse}

same_answer : (o : Result Answered Refusal) (answer other : Answered) → o ≡ Ok answer → o ≡ Ok other → answer ≡ other
same_answer o answer other e f = cc

same_refusal : (o : Result Answered Refusal) (why other : Refusal) → o ≡ Err why → o ≡ Err other → why ≡ other
same_refusal o why other e f = cc

no_refusal : (o : Result Answered Refusal) (answer : Answered) (why : Refusal) → o ≡ Ok answer → o ≡ Err why → ⊥
no_refusal o answer why e f = cc

pub one_response : (d : Declared) (text : List ℕ) (answer other : Answered) → ReadsResponse d text answer → ReadsResponse d text other → answer ≡ other
one_response d text answer other e f = same_answer (response_of d text) answer other e f

pub one_refusal : (d : Declared) (text : List ℕ) (why other : Refusal) → RefusesResponse d text why → RefusesResponse d text other → why ≡ other
one_refusal d text why other e f = same_refusal (response_of d text) why other e f

pub not_both : (d : Declared) (text : List ℕ) (answer : Answered) (why : Refusal) → ReadsResponse d text answer → RefusesResponse d text why → ⊥
not_both d text answer why e f = no_refusal (response_of d text) answer why e f

pub one_of_both : (d : Declared) (text : List ℕ) → ((answer : Answered) × ReadsResponse d text answer) ⊎ ((why : Refusal) × RefusesResponse d text why)
one_of_both d text = go (response_of d text) refl
  where
    go : (o : Result Answered Refusal) → response_of d text ≡ o → ((answer : Answered) × ReadsResponse d text answer) ⊎ ((why : Refusal) × RefusesResponse d text why)
    go (Ok answer) e = inl (answer, e)
    go (Err why) e = inr (why, e)

-- Each text comes to one result.
use Rattle.std.proofs.Common.{◌≡◌, ◌⊎◌, ℕ, List, Result, Ok, Err, inl, inr, refl}
use Rattle.text_core.specs.declared.place.Refusal.{Refusal}
use Rattle.smv_meaning.specs.declared.value.Run.{Run}
use Rattle.smv_numbered.specs.Stated.{Declarations}
use Rattle.smv_trace.specs.Texts.{trace_of, ReadsTrace, RefusesTrace}

same_run : (o : Result Run Refusal) (run other : Run) → o ≡ Ok run → o ≡ Ok other → run ≡ other
same_run o run other e f = cc

same_refusal : (o : Result Run Refusal) (why other : Refusal) → o ≡ Err why → o ≡ Err other → why ≡ other
same_refusal o why other e f = cc

no_refusal : (o : Result Run Refusal) (run : Run) (why : Refusal) → o ≡ Ok run → o ≡ Err why → ⊥
no_refusal o run why e f = cc

pub one_trace : (d : Declarations) (text : List ℕ) (run other : Run) → ReadsTrace d text run → ReadsTrace d text other → run ≡ other
one_trace d text run other e f = same_run (trace_of d text) run other e f

pub one_refusal : (d : Declarations) (text : List ℕ) (why other : Refusal) → RefusesTrace d text why → RefusesTrace d text other → why ≡ other
one_refusal d text why other e f = same_refusal (trace_of d text) why other e f

pub not_both : (d : Declarations) (text : List ℕ) (run : Run) (why : Refusal) → ReadsTrace d text run → RefusesTrace d text why → ⊥
not_both d text run why e f = no_refusal (trace_of d text) run why e f

pub one_of_both : (d : Declarations) (text : List ℕ) → ((run : Run) × ReadsTrace d text run) ⊎ ((why : Refusal) × RefusesTrace d text why)
one_of_both d text = go (trace_of d text) refl
  where
    go : (o : Result Run Refusal) → trace_of d text ≡ o → ((run : Run) × ReadsTrace d text run) ⊎ ((why : Refusal) × RefusesTrace d text why)
    go (Ok run) e = inl (run, e)
    go (Err why) e = inr (why, e)

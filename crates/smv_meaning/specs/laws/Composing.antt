-- Checks one after another: the first that fails refuses.
use Rattle.std.proofs.Common.{◌≡◌, true, false, List, [], ◌∷◌, ◌++◌, Some, if◌then◌else◌, None, refl, ◌∙◌}
use Rattle.text_core.specs.declared.place.Refusal.{Refusal}
use Rattle.smv_meaning.specs.Checks.{Check, first_failing, IsBad}
use Rattle.text_core.specs.declared.end.End.{End}
use Rattle.text_core.specs.declared.end.End.TheVariants.{Bad, NoMemory}

pub stops : (xs ys : List Check) (why : Refusal) → first_failing xs ≡ Some why → first_failing (xs ++ ys) ≡ Some why
stops [] ys why h = cc
stops (c ∷ cs) ys why h =
    (elim c.holds as (λ b. (if b then first_failing cs else Some c.refusal) ≡ Some why → (if b then first_failing (cs ++ ys) else Some c.refusal) ≡ Some why)
    [ true ↦ λ k. stops cs ys why k | false ↦ λ k. k ]) h

pub goes : (xs ys : List Check) → first_failing xs ≡ None → first_failing (xs ++ ys) ≡ first_failing ys
goes [] ys h = refl
goes (c ∷ cs) ys h =
    (elim c.holds as (λ b. (if b then first_failing cs else Some c.refusal) ≡ None → (if b then first_failing (cs ++ ys) else Some c.refusal) ≡ first_failing ys)
    [ true ↦ λ k. goes cs ys k | false ↦ λ k. cc ]) h

pub ends : (e : End) (xs ys : List Check) → IsBad e (first_failing xs) → IsBad e (first_failing (xs ++ ys))
ends (Bad why) xs ys h = stops xs ys why h
ends NoMemory xs ys h = tt

pub ends_behind : (e : End) (xs ys : List Check) → first_failing xs ≡ None → IsBad e (first_failing ys) → IsBad e (first_failing (xs ++ ys))
ends_behind (Bad why) xs ys g h = goes xs ys g ∙ h
ends_behind NoMemory xs ys g h = tt

pub both_pass : (xs ys : List Check) → first_failing xs ≡ None → first_failing ys ≡ None → first_failing (xs ++ ys) ≡ None
both_pass xs ys g h = goes xs ys g ∙ h

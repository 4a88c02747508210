-- The first values, one behind the other.
use Rattle.std.proofs.Common.{◌≡◌, ℕ, zero, suc, ◌<◌, List, [], ◌∷◌, ◌++◌, length, refl, sym, ap, ◌∙◌, arith, inl, inr, ◌⊎◌}
use Rattle.std.proofs.lemmas.List.{get_or_append_left, get_or_push, length-append}
use Rattle.moxi_terms.specs.declared.data.Datum.{Datum}
use Rattle.moxi_terms.specs.Operators.{nothing}
use Rattle.moxi_terms.specs.Value.{Values, at}
use Rattle.moxi_lift.specs.Lifted.{values_upto}

pub upto_long : (values : Values) (n : ℕ) → length (values_upto values n) ≡ n
upto_long values zero = refl
upto_long values (suc n) = omega (arith, length-append (values_upto values n) (values n ∷ []), upto_long values n)

pub below_cases : (v n : ℕ) → v < suc n → (v < n) ⊎ (v ≡ n)
below_cases zero zero h = inr refl
below_cases zero (suc n) h = inl (omega arith)
below_cases (suc v) zero h = absurd (omega (arith, h))
below_cases (suc v) (suc n) h = elim (below_cases v n (omega (arith, h))) [ inl l ↦ inl (omega (arith, l)) | inr e ↦ inr (ap suc e) ]

pub at_upto : (values : Values) (n v : ℕ) → v < n → at (values_upto values n) v ≡ values v
at_upto values zero v h = absurd (omega (arith, h))
at_upto values (suc n) v h =
    let front = values_upto values n in
    elim (below_cases v n h) [
      | inl l ↦ get_or_append_left front (values n ∷ []) nothing v (let long = upto_long values n in omega (arith, l, long)) ∙ at_upto values n v l
      | inr e ↦ get_or_push front (values n) nothing v (upto_long values n ∙ sym e) ∙ ap values (sym e)
    ]

pub upto_same : (a b : Values) (n : ℕ) → ((v : ℕ) → v < n → a v ≡ b v) → values_upto a n ≡ values_upto b n
upto_same a b zero e = refl
upto_same a b (suc n) e =
    ap (λ (ds : List Datum). ds ++ a n ∷ []) (upto_same a b n (λ v h. e v (omega (arith, h)))) ∙ ap (λ d. values_upto b n ++ d ∷ []) (e n (omega arith))

-- Statements of what is before each value.
use Rattle.std.proofs.Common.{◌≡◌, ◌⊎◌, inl, inr, ℕ, List, [], ◌∷◌, ◌++◌, map, length, append-nil, refl, sym, ap, ◌∙◌, arith}
use Rattle.std.specs.Prelude.{codes}
use Rattle.std.proofs.lemmas.List.{append_assoc}
use Rattle.moxi_terms.specs.declared.data.Datum.{Datum}
use Rattle.moxi_terms.specs.declared.term.Enumeration.{Enumeration}
use Rattle.moxi_terms.specs.declared.term.Variable.{Variable}
use Rattle.moxi_trace.specs.Texts.{symbol_text, value_text, statement_text, statements_text, front_text, fronted_text}

front_is : (es : List Enumeration) (v : Variable) (x : Datum) → front_text v ++ (value_text es x ++ codes ")") ≡ statement_text es v x
front_is es v x = ap (λ (t : List ℕ). 32 ∷ 40 ∷ t) (append_assoc (symbol_text v.name) (codes " ") (value_text es x ++ codes ")"))

fronted_is : (es : List Enumeration) (vs : List Variable) (xs : List Datum) → fronted_text es (map front_text vs) xs ≡ statements_text es vs xs
fronted_is es vs [] = refl
fronted_is es [] (x ∷ xs) = refl
fronted_is es (v ∷ vs) (x ∷ xs) =
    ap (λ t. t ++ fronted_text es (map front_text vs) xs) (front_is es v x) ∙ ap (λ t. statement_text es v x ++ t) (fronted_is es vs xs)

pub fronted : (es : List Enumeration) (fs : List (List ℕ)) (vs : List Variable) (xs : List Datum) → fs ≡ map front_text vs → fronted_text es fs xs ≡ statements_text es vs xs
fronted es fs vs xs e = ap (λ f. fronted_text es f xs) e ∙ fronted_is es vs xs

-- the loop ends with the shorter of both lists
no_fronts : (es : List Enumeration) (fs : List (List ℕ)) (xs : List Datum) → length fs ≡ 0 → fronted_text es fs xs ≡ []
no_fronts es fs [] h = refl
no_fronts es [] (x ∷ xs) h = refl
no_fronts es (f ∷ fs) (x ∷ xs) h = absurd (omega (arith, h))

no_values : (es : List Enumeration) (fs : List (List ℕ)) (xs : List Datum) → length xs ≡ 0 → fronted_text es fs xs ≡ []
no_values es fs [] h = refl
no_values es fs (x ∷ xs) h = absurd (omega (arith, h))

pub fronts_end : {S T : Type 0} {P : S → Type 0} {Q : T → Type 0} (es : List Enumeration) (fs : List (List ℕ)) (xs : List Datum) (out total : List ℕ)
    → ((s : S) × (length fs ≡ 0 × P s)) ⊎ ((t : T) × (length xs ≡ 0 × Q t)) → out ++ fronted_text es fs xs ≡ total → out ≡ total
fronts_end es fs xs out total (inl w) e = sym (append-nil out) ∙ ap (λ t. out ++ t) (sym (no_fronts es fs xs w.1.0)) ∙ e
fronts_end es fs xs out total (inr w) e = sym (append-nil out) ∙ ap (λ t. out ++ t) (sym (no_values es fs xs w.1.0)) ∙ e

-- a step of its parts
pub step_put : (out front number all digits text : List ℕ) → front ≡ out ++ 10 ∷ 40 ∷ [] → number ≡ front ++ digits → all ≡ number ++ text → all ++ 41 ∷ [] ≡ out ++ 10 ∷ 40 ∷ (digits ++ (text ++ 41 ∷ []))
step_put out front number all digits text a b c =
    ap (λ (t : List ℕ). t ++ 41 ∷ []) (c ∙ ap (λ (t : List ℕ). t ++ text) (b ∙ ap (λ (t : List ℕ). t ++ digits) a))
    ∙ append_assoc ((out ++ 10 ∷ 40 ∷ []) ++ digits) text (41 ∷ [])
    ∙ append_assoc (out ++ 10 ∷ 40 ∷ []) digits (text ++ 41 ∷ [])
    ∙ append_assoc out (10 ∷ 40 ∷ []) (digits ++ (text ++ 41 ∷ []))

-- Loops that put what is made of each element at the end of a list.
use Rattle.std.proofs.Common.{◌≡◌, ℕ, ◌+◌, ◌≤◌, ◌++◌, List, [], ◌∷◌, drop, length, sym, ap, ◌∙◌, append_assoc, append-nil}
use Rattle.std.proofs.lemmas.List.{drop_all}

-- what is made of a list is what is made of its elements, one behind the other
abbrev pub IsOfElements : {A B : Type 0} → (List A → List B) → Type 0
IsOfElements {A} {B} f = (x : A) (xs : List A) → f (x ∷ xs) ≡ f (x ∷ []) ++ f xs

pub step_on : {A B : Type 0} (f : List A → List B) → IsOfElements f → (all more made : List B) (xs : List A) (i : ℕ) (x : A) (total : List B) → drop i xs ≡ x ∷ drop (i + 1) xs
    → more ≡ all ++ made → made ≡ f (x ∷ []) → all ++ f (drop i xs) ≡ total → more ++ f (drop (i + 1) xs) ≡ total
step_on f is all more made xs i x total h e m k =
    ap (λ ys. ys ++ f (drop (i + 1) xs)) (e ∙ ap (λ ys. all ++ ys) m) ∙ append_assoc all (f (x ∷ [])) (f (drop (i + 1) xs))
    ∙ ap (λ ys. all ++ ys) (sym (ap f h ∙ is x (drop (i + 1) xs))) ∙ k

pub steps_end : {A B : Type 0} (f : List A → List B) (all : List B) (xs : List A) (i : ℕ) (total : List B) → length xs ≤ i → f [] ≡ [] → all ++ f (drop i xs) ≡ total → all ≡ total
steps_end f all xs i total h none k = sym (append-nil all) ∙ ap (λ ys. all ++ ys) (sym (ap f (drop_all i xs h) ∙ none)) ∙ k

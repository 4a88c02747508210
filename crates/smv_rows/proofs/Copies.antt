-- A list that is copied one element after another.
use Rattle.std.proofs.Common.{◌≡◌, ℕ, ◌+◌, ◌<◌, ◌≤◌, List, [], ◌∷◌, ◌++◌, length, take, sym, ap, ◌∙◌, arith}
use Rattle.std.specs.Prelude.{slice_index_or}
use Rattle.std.proofs.lemmas.List.{take_more, take_all}

pub copied : {X : Type 0} (xs ys new : List X) (k n : ℕ) (x y : X) → n ≡ length xs → k < n → ys ≡ take k xs → x ≡ slice_index_or xs k x → y ≡ x → new ≡ ys ++ y ∷ [] → new ≡ take (k + 1) xs
copied xs ys new k n x y e l before is same push =
    push ∙ ap (λ zs. zs ++ y ∷ []) before ∙ ap (λ z. take k xs ++ z ∷ []) (same ∙ is) ∙ sym (take_more xs k x (omega (arith, e, l)))

pub all_copied : {X : Type 0} (xs ys : List X) (k n : ℕ) → n ≡ length xs → n ≤ k → ys ≡ take k xs → ys ≡ xs
all_copied xs ys k n e l before = before ∙ take_all k xs (omega (arith, e, l))

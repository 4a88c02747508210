-- Forms, one after another.
use Rattle.std.proofs.Common.{◌≡◌, ℕ, ◌+◌, ◌<◌, ◌≤◌, List, [], ◌∷◌, length, drop, sym, ap, ◌∙◌, arith}
use Rattle.std.specs.Prelude.{slice_index_or}
use Rattle.std.proofs.lemmas.List.{drop_all, drop_more}

-- items, one after another
pub items_step : {X : Type 0} (xs : List X) (i n : ℕ) (x : X) → n ≡ length xs → i < n → x ≡ slice_index_or xs i x → drop i xs ≡ x ∷ drop (i + 1) xs
items_step xs i n x e l is = drop_more xs i x (omega (arith, e, l)) ∙ ap (λ y. y ∷ drop (i + 1) xs) (sym is)

pub items_end : {X : Type 0} (xs : List X) (i n : ℕ) → n ≡ length xs → n ≤ i → drop i xs ≡ []
items_end xs i n e l = drop_all i xs (omega (arith, e, l))

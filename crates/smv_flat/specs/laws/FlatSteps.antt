-- The list from a place on.
use Rattle.std.proofs.Common.{◌≡◌, ℕ, ◌+◌, ◌<◌, get_or, add-one, drop, length, List, ◌∷◌, sym, ap, ◌∙◌}
use Rattle.std.proofs.Math.Seq.{drop-cons}

pub drop_item : {X : Type 0} (xs : List X) (k : ℕ) (x : X) → k < length xs → x ≡ get_or xs k x → drop k xs ≡ x ∷ drop (k + 1) xs
drop_item xs k x h e = drop-cons xs k x h ∙ ap (λ n. get_or xs k x ∷ drop n xs) (sym (add-one k)) ∙ ap (λ y. y ∷ drop (k + 1) xs) (sym e)

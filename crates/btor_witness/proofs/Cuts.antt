-- The CR at the end of a line.
use Rattle.std.proofs.Common.{◌≡◌, ℕ, true, false, eqb, List, [], ◌∷◌, ◌++◌, ap}
use Rattle.std.proofs.lemmas.Bool.{cond-true, cond-false}
use Rattle.btor_witness.specs.Bytes.{without_return}

pub return_off : (front : List ℕ) (b : ℕ) → eqb b 13 ≡ true → without_return (front ++ b ∷ []) ≡ front
return_off [] b e = cond-true (eqb b 13) [] (b ∷ []) e
return_off (c ∷ []) b e = ap (λ x. c ∷ x) (return_off [] b e)
return_off (c ∷ d ∷ front) b e = ap (λ x. c ∷ x) (return_off (d ∷ front) b e)

pub return_none : (front : List ℕ) (b : ℕ) → eqb b 13 ≡ false → without_return (front ++ b ∷ []) ≡ front ++ b ∷ []
return_none [] b e = cond-false (eqb b 13) [] (b ∷ []) e
return_none (c ∷ []) b e = ap (λ x. c ∷ x) (return_none [] b e)
return_none (c ∷ d ∷ front) b e = ap (λ x. c ∷ x) (return_none (d ∷ front) b e)

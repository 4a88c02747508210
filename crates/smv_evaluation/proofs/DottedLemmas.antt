-- Steps of comparing and hashing dotted names.
use Rattle.std.proofs.Common.{◌≡◌, ℕ, ◌==◌, ◌&&◌, Bool, List, [], ◌∷◌, ◌++◌, length, bytes_eq, refl, sym, ap, ◌∙◌, arith}
use Rattle.std.specs.Cmp.Lexicographic.{nat_list_eq_equiv}

-- one path is none
pub dot_first : (b : ℕ) (rest x y q : List ℕ) → q ≡ b ∷ rest → bytes_eq (46 ∷ x) (q ++ 46 ∷ y) ≡ ((46 == b) && bytes_eq x (rest ++ 46 ∷ y))
dot_first b rest x y q e = ap (λ l. bytes_eq (46 ∷ x) (l ++ 46 ∷ y)) e

pub dot_second : (a : ℕ) (more x y p : List ℕ) → p ≡ a ∷ more → bytes_eq (p ++ 46 ∷ x) (46 ∷ y) ≡ ((a == 46) && bytes_eq y (more ++ 46 ∷ x))
dot_second a more x y p e = ap (λ l. bytes_eq (l ++ 46 ∷ x) (46 ∷ y)) e ∙ ap (λ b. (a == 46) && b) (nat_list_eq_equiv.symm (more ++ 46 ∷ x) y)

pub is_empty : (q : List ℕ) → length q ≡ 0 → q ≡ []
is_empty [] h = refl
is_empty (b ∷ q) h = absurd (omega (arith, h))

pub dot_ends : (r : Bool) (a : ℕ) (more x y p q : List ℕ) → p ≡ a ∷ more → q ≡ [] → a ≡ 46 → r ≡ bytes_eq y (more ++ 46 ∷ x) → r ≡ bytes_eq (p ++ 46 ∷ x) (q ++ 46 ∷ y)
dot_ends r a more x y p q e f s h =
    h ∙ nat_list_eq_equiv.symm y (more ++ 46 ∷ x) ∙ ap (λ b. (b == 46) && bytes_eq (more ++ 46 ∷ x) y) (sym s)
    ∙ ap (λ l. bytes_eq (l ++ 46 ∷ x) (46 ∷ y)) (sym e) ∙ ap (λ l. bytes_eq (p ++ 46 ∷ x) (l ++ 46 ∷ y)) (sym f)

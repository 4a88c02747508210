-- What holds of all elements of a list holds of each.
use Rattle.std.proofs.Common.{◌≡◌, ℕ, zero, suc, ◌<◌, List, [], ◌∷◌, map, length, refl, sym, ◌∙◌, subst, arith}
use Rattle.std.specs.Prelude.{slice_index_or}
use Rattle.std.specs.List.{AllByRecursion}

-- of the element at a place
pub all_at : {A : Type 0} (P : A → Type 0) (xs : List A) (i : ℕ) (x d : A) → AllByRecursion P xs → i < length xs → x ≡ slice_index_or xs i d → P x
all_at P [] i x d h l e = absurd (omega (arith, l))
all_at P (y ∷ ys) zero x d h l e = subst P (sym e) h.0
all_at P (y ∷ ys) (suc i) x d h l e = all_at P ys i x d h.1 (omega (arith, l)) e

-- of what stands for the element at a place
pub seen_at : {A B : Type 0} (P : B → Type 0) (g : A → B) (xs : List A) (i : ℕ) (x d : A) → AllByRecursion P (map g xs) → i < length xs → x ≡ slice_index_or xs i d → P (g x)
seen_at P g [] i x d h l e = absurd (omega (arith, l))
seen_at P g (y ∷ ys) zero x d h l e = subst (λ z. P (g z)) (sym e) h.0
seen_at P g (y ∷ ys) (suc i) x d h l e = seen_at P g ys i x d h.1 (omega (arith, l)) e

-- at a place of the list it is the same what stands beyond it
pub index_same : {A : Type 0} (xs : List A) (i : ℕ) (d e : A) → i < length xs → slice_index_or xs i d ≡ slice_index_or xs i e
index_same [] i d e l = absurd (omega (arith, l))
index_same (x ∷ xs) zero d e l = refl
index_same (x ∷ xs) (suc i) d e l = index_same xs i d e (omega (arith, l))

-- the element at a place, with another default
pub found_at : {A : Type 0} (xs : List A) (i : ℕ) (x d : A) → i < length xs → x ≡ slice_index_or xs i x → x ≡ slice_index_or xs i d
found_at xs i x d l e = e ∙ index_same xs i x d l

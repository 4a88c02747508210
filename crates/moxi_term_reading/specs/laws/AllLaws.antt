-- What holds of all elements of a list.
use Rattle.std.proofs.Common.{◌≡◌, ℕ, zero, suc, List, [], ◌∷◌, Some, subst}
use Rattle.std.specs.Prelude.{slice_get}
use Rattle.std.specs.List.{AllByRecursion}
use Rattle.std.proofs.lemmas.Option.{same_Some, none-some}

pub all_of : {X : Type 0} (P Q : X → Type 0) (xs : List X) → ((x : X) → P x → Q x) → AllByRecursion P xs → AllByRecursion Q xs
all_of P Q [] f a = tt
all_of P Q (x ∷ xs) f a = (f x a.0, all_of P Q xs f a.1)

pub all_at : {X : Type 0} (P : X → Type 0) (xs : List X) (k : ℕ) (x : X) → AllByRecursion P xs → slice_get xs k ≡ Some x → P x
all_at P [] k x a h = absurd (none-some x h)
all_at P (y ∷ ys) zero x a h = subst P (same_Some y x h) a.0
all_at P (y ∷ ys) (suc k) x a h = all_at P ys k x a.1 h

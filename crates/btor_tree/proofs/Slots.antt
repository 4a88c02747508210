-- The arguments of a line where they lie.
use Rattle.std.proofs.Common.{◌≡◌, ◌≢◌, ◌<◌, ◌≤◌, ℕ, zero, suc, Bool, true, false, ◌&&◌, List, [], ◌∷◌, length, refl, sym, ap, subst, ◌∙◌, arith, slice_index_or}
use Rattle.std.proofs.lemmas.List.{length-take-le}
use Rattle.btor_tree.specs.declared.args.Arg.{Arg}
use Rattle.btor_tree.specs.ListedArgs.{listed}
use Rattle.btor_tree.specs.Sharing.{same_arg, same_args}

pub as_many : (n : ℕ) (a b c : Arg) → n ≤ 3 → n ≡ length (listed n a b c)
as_many n a b c h = sym (length-take-le n (a ∷ b ∷ c ∷ []) h)

pub first_at : (n : ℕ) (a b c : Arg) → 0 < length (listed n a b c) → a ≡ slice_index_or (listed n a b c) 0 a
first_at zero a b c h = absurd (omega (arith, h))
first_at (suc n) a b c h = refl

second_there : (n : ℕ) (a b c : Arg) → 1 < length (listed n a b c) → b ≡ slice_index_or (listed n a b c) 1 b
second_there zero a b c h = absurd (omega (arith, h))
second_there (suc zero) a b c h = absurd (omega (arith, h))
second_there (suc (suc n)) a b c h = refl

pub second_at : (n i : ℕ) (a b c : Arg) → i ≡ 1 → i < length (listed n a b c) → b ≡ slice_index_or (listed n a b c) i b
second_at n i a b c e h = subst (λ j. b ≡ slice_index_or (listed n a b c) j b) (sym e) (second_there n a b c (subst (λ j. j < length (listed n a b c)) e h))

third_there : (n : ℕ) (a b c : Arg) → 2 < length (listed n a b c) → c ≡ slice_index_or (listed n a b c) 2 c
third_there zero a b c h = absurd (omega (arith, h))
third_there (suc zero) a b c h = absurd (omega (arith, h))
third_there (suc (suc zero)) a b c h = absurd (omega (arith, h))
third_there (suc (suc (suc n))) a b c h = refl

pub third_at : (n i : ℕ) (a b c : Arg) → n ≤ 3 → i ≢ 0 → i ≢ 1 → i < length (listed n a b c) → c ≡ slice_index_or (listed n a b c) i c
third_at n zero a b c m e f h = absurd (e refl)
third_at n (suc zero) a b c m e f h = absurd (f refl)
third_at n (suc (suc zero)) a b c m e f h = third_there n a b c h
third_at n (suc (suc (suc i))) a b c m e f h = absurd (omega (arith, h, m, as_many n a b c m))

pub two_there : (n : ℕ) (a b c : Arg) → n ≡ 2 → listed n a b c ≡ a ∷ b ∷ []
two_there n a b c e = ap (λ m. listed m a b c) e

pub not_two : (n : ℕ) (a b c : Arg) → n ≤ 3 → n ≢ 2 → length (listed n a b c) ≢ 2
not_two n a b c m e f = e (as_many n a b c m ∙ f)

and_no : (b : Bool) → (b && false) ≡ false
and_no true = refl
and_no false = refl

differ : (xs ys : List Arg) → length xs ≢ length ys → same_args xs ys ≡ false
differ [] [] d = absurd (d refl)
differ [] (y ∷ ys) d = refl
differ (x ∷ xs) [] d = refl
differ (x ∷ xs) (y ∷ ys) d = ap (λ b. same_arg x y && b) (differ xs ys (λ e. d (ap suc e))) ∙ and_no (same_arg x y)

pub not_as_many : (n m : ℕ) (a b c x y z : Arg) → n ≤ 3 → m ≤ 3 → n ≢ m → false ≡ same_args (listed n a b c) (listed m x y z)
not_as_many n m a b c x y z h g d =
    sym (differ (listed n a b c) (listed m x y z) (λ e. d (as_many n a b c h ∙ e ∙ sym (as_many m x y z g))))

-- Laws of lists.
use Rattle.std.proofs.Common.{◌≡◌, Bool, ◌&&◌, List, ◌++◌, ap, ◌∙◌, [], ◌∷◌, refl, append_assoc, map, ◌+◌, length, arith, ℕ, Some, eqb, true}
use Rattle.std.specs.List.{list_all, AllByRecursion}
use Rattle.std.proofs.lemmas.List.Folds.{list_all-append}
use Rattle.std.specs.Prelude.{slice_get}
use Rattle.std.proofs.lemmas.Bool.Decides.{nat_tests}

-- two lists of which all is so
pub both_so : {X : Type 0} (p : X → Bool) (xs ys : List X) (a b : Bool) → list_all p xs ≡ a → list_all p ys ≡ b → list_all p (xs ++ ys) ≡ (a && b)
both_so p xs ys a b h k = list_all-append p xs ys ∙ ap (λ c. c && list_all p ys) h ∙ ap (λ c. a && c) k

pub append_none : {X : Type 0} (xs : List X) → xs ++ [] ≡ xs
append_none [] = refl
append_none (x ∷ xs) = ap (λ ys. x ∷ ys) (append_none xs)

-- what was put at the end counts as the front of what is to come
pub joined_on : {X : Type 0} (front more all : List X) (x : X) → (front ++ x ∷ []) ++ more ≡ front ++ x ∷ more
joined_on front more all x = append_assoc front (x ∷ []) more

pub all_append : {X : Type 0} (P : X → Type 0) (xs ys : List X) → AllByRecursion P xs → AllByRecursion P ys → AllByRecursion P (xs ++ ys)
all_append P [] ys a b = b
all_append P (x ∷ xs) ys a b = (a.0, all_append P xs ys a.1 b)

pub map_end : {A B : Type 0} (g : A → B) (xs : List A) (x : A) → map g (xs ++ x ∷ []) ≡ map g xs ++ g x ∷ []
map_end g [] x = refl
map_end g (y ∷ xs) x = ap (λ ys. g y ∷ ys) (map_end g xs x)

-- the new list is the old one with an element, of which this is made
pub pushed : {A B : Type 0} (g : A → B) (xs ys : List A) (x : A) (b : B) → ys ≡ xs ++ x ∷ [] → g x ≡ b → map g ys ≡ map g xs ++ b ∷ []
pushed g xs ys x b h e = ap (map g) h ∙ map_end g xs x ∙ ap (λ c. map g xs ++ c ∷ []) e

pub grown : {A : Type 0} (xs : List A) (x : A) → length (xs ++ x ∷ []) ≡ length xs + 1
grown [] x = refl
grown (y ∷ xs) x = let r = grown xs x in omega (arith, r)

pub joined : {A B : Type 0} (g : A → B) (xs : List A) (x : A) (ys : List B) → map g (xs ++ x ∷ []) ++ ys ≡ map g xs ++ g x ∷ ys
joined g [] x ys = refl
joined g (z ∷ xs) x ys = ap (λ zs. g z ∷ zs) (joined g xs x ys)

pub put : {A : Type 0} (xs : List A) (x : A) (ys : List A) → (xs ++ x ∷ []) ++ ys ≡ xs ++ x ∷ ys
put [] x ys = refl
put (z ∷ xs) x ys = ap (λ zs. z ∷ zs) (put xs x ys)

pub nothing_there : {X : Type 0} {Y : Type 0} (n : ℕ) (x : X) → slice_get (let e : List X = [] in e) n ≡ Some x → Y
nothing_there n x h = cc

abbrev pub rest_of : {A : Type 0} → List A → List A
rest_of [] = []
rest_of (x ∷ xs) = xs

pub no_length : {X Y : Type 0} (g : X → Y) (xs : List X) → eqb (length xs) 0 ≡ true → map g xs ≡ []
no_length g [] h = refl
no_length g (x ∷ xs) h = absurd (grind (arith, nat_tests))

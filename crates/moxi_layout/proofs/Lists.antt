-- Lists of facts, of truth values and of words.
use Rattle.std.proofs.Common.{◌≡◌, ℕ, zero, suc, ◌<◌, Bool, true, false, ◌||◌, List, [], ◌∷◌, map, length, Some, refl, sym, ap, ◌∙◌, subst, arith}
use Rattle.std.specs.Prelude.{slice_get, slice_index_or, flat_map, Any}
use Rattle.std.specs.List.{AllByRecursion, list_all, list_any}
use Rattle.std.proofs.lemmas.Bool.{and_parts, and_from}
use Rattle.std.proofs.lemmas.Option.{same_Some, none-some}
use Rattle.moxi_lines.proofs.Extending.{all_both, all_first, all_second}
use Rattle.moxi_scripts.proofs.MeetingLaws.{or_second}
use Rattle.moxi_scripts.proofs.WholeWalks.{or_first}

-- ---- facts of all elements

pub all_weaken : {X : Type 0} (P Q : X → Type 0) (xs : List X) → ((x : X) → P x → Q x) → AllByRecursion P xs → AllByRecursion Q xs
all_weaken P Q [] g a = tt
all_weaken P Q (x ∷ xs) g a = (g x a.0, all_weaken P Q xs g a.1)

pub all_any : {X : Type 0} (P : X → Type 0) (xs : List X) → ((x : X) → P x) → AllByRecursion P xs
all_any P [] g = tt
all_any P (x ∷ xs) g = (g x, all_any P xs g)

pub all_with : {X : Type 0} (R P Q : X → Type 0) (xs : List X) → ((x : X) → R x → P x → Q x) → AllByRecursion R xs → AllByRecursion P xs → AllByRecursion Q xs
all_with R P Q [] g r a = tt
all_with R P Q (x ∷ xs) g r a = (g x r.0 a.0, all_with R P Q xs g r.1 a.1)

pub all_flat : {X Y : Type 0} (P : Y → Type 0) (g : X → List Y) (xs : List X) → AllByRecursion (λ x. AllByRecursion P (g x)) xs → AllByRecursion P (flat_map g xs)
all_flat P g [] a = tt
all_flat P g (x ∷ xs) a = all_both P (g x) (flat_map g xs) a.0 (all_flat P g xs a.1)

pub flat_all : {X Y : Type 0} (P : Y → Type 0) (g : X → List Y) (xs : List X) → AllByRecursion P (flat_map g xs) → AllByRecursion (λ x. AllByRecursion P (g x)) xs
flat_all P g [] a = tt
flat_all P g (x ∷ xs) a = (all_first P (g x) (flat_map g xs) a, flat_all P g xs (all_second P (g x) (flat_map g xs) a))

-- for all steps of all elements, or for all elements at all steps
pub all_steps : {X : Type 0} (S : ℕ → Type 0) (P : ℕ → X → Type 0) (xs : List X) → AllByRecursion (λ x. (j : ℕ) → S j → P j x) xs → (j : ℕ) → S j → AllByRecursion (P j) xs
all_steps S P [] a j h = tt
all_steps S P (x ∷ xs) a j h = (a.0 j h, all_steps S P xs a.1 j h)

pub steps_all : {X : Type 0} (S : ℕ → Type 0) (P : ℕ → X → Type 0) (xs : List X) → ((j : ℕ) → S j → AllByRecursion (P j) xs) → AllByRecursion (λ x. (j : ℕ) → S j → P j x) xs
steps_all S P [] a = tt
steps_all S P (x ∷ xs) a = (λ j h. (a j h).0, steps_all S P xs (λ j h. (a j h).1))

pub all_get : {X : Type 0} (P : X → Type 0) (xs : List X) (i : ℕ) (x : X) → AllByRecursion P xs → slice_get xs i ≡ Some x → P x
all_get P [] i x a h = absurd (none-some x h)
all_get P (y ∷ xs) zero x a h = subst P (same_Some y x h) a.0
all_get P (y ∷ xs) (suc i) x a h = all_get P xs i x a.1 h

-- ---- tests

pub tests_all : {X : Type 0} (test : X → Bool) (xs : List X) → list_all test xs ≡ true → AllByRecursion (λ x. test x ≡ true) xs
tests_all test [] h = tt
tests_all test (x ∷ xs) h = let p = and_parts (test x) (list_all test xs) h in (p.0, tests_all test xs p.1)

pub all_tests : {X : Type 0} (test : X → Bool) (xs : List X) → AllByRecursion (λ x. test x ≡ true) xs → list_all test xs ≡ true
all_tests test [] a = refl
all_tests test (x ∷ xs) a = and_from (test x) (list_all test xs) a.0 (all_tests test xs a.1)

or_cases : (a b : Bool) (C : Type 0) → (a || b) ≡ true → (a ≡ true → C) → (b ≡ true → C) → C
or_cases true b C h f g = f refl
or_cases false b C h f g = g h

pub tests_any : {X : Type 0} (test : X → Bool) (P : X → Type 0) (xs : List X) → ((x : X) → test x ≡ true → P x) → list_any test xs ≡ true → Any P xs
tests_any test P [] g h = absurd (cc)
tests_any test P (x ∷ xs) g h =
    or_cases (test x) (list_any test xs) (Any P (x ∷ xs)) h (λ e. (0, x, omega arith, refl, g x e)) (λ e.
    let r = tests_any test P xs g e in
    (suc r.0, r.1, omega (arith, r.2), r.3, r.4))

pub any_tests : {X : Type 0} (test : X → Bool) (P : X → Type 0) (xs : List X) → ((x : X) → P x → test x ≡ true) → Any P xs → list_any test xs ≡ true
any_tests test P [] g a = absurd (omega (arith, a.2))
any_tests {X} test P (x ∷ xs) g a = go (any_tests test P xs g) a.0 a.2 a.3
  where
    go : (Any P xs → list_any test xs ≡ true) → (i : ℕ) → i < suc (length xs) → slice_index_or (x ∷ xs) i a.1 ≡ a.1 → (test x || list_any test xs) ≡ true
    go rest zero h e = or_first (test x) (list_any test xs) (subst (λ y. test y ≡ true) (sym e) (g a.1 a.4))
    go rest (suc i) h e = or_second (test x) (list_any test xs) (rest (i, a.1, omega (arith, h), e, a.4))

-- ---- lists that are equal by their maps

abbrev head_or : {X : Type 0} → X → List X → X
head_or d [] = d
head_or d (x ∷ xs) = x

abbrev rest_of : {X : Type 0} → List X → List X
rest_of [] = []
rest_of (x ∷ xs) = xs

abbrev is_empty : {X : Type 0} → List X → Bool
is_empty [] = true
is_empty (x ∷ xs) = false

pub same_head : {X : Type 0} (x y : X) (xs ys : List X) → x ∷ xs ≡ y ∷ ys → x ≡ y
same_head x y xs ys e = ap (head_or x) e

pub same_rest : {X : Type 0} (x y : X) (xs ys : List X) → x ∷ xs ≡ y ∷ ys → xs ≡ ys
same_rest x y xs ys e = ap rest_of e

pub not_nil : {X : Type 0} (x : X) (xs : List X) → x ∷ xs ≡ [] → ⊥
not_nil x xs e = let h : false ≡ true = ap is_empty e in absurd (cc)

pub nil_not : {X : Type 0} (x : X) (xs : List X) → [] ≡ x ∷ xs → ⊥
nil_not x xs e = not_nil x xs (sym e)

-- what one list's elements give is what another list's give, one by one
pub maps_all : {X Y Z : Type 0} (f : X → Z) (g : Y → Z) (P : X → Type 0) (Q : Y → Type 0) (xs : List X) (ys : List Y)
    → ((x : X) (y : Y) → f x ≡ g y → P x → Q y) → map f xs ≡ map g ys → AllByRecursion P xs → AllByRecursion Q ys
maps_all f g P Q [] [] h e a = tt
maps_all f g P Q [] (y ∷ ys) h e a = absurd (nil_not (g y) (map g ys) e)
maps_all f g P Q (x ∷ xs) [] h e a = absurd (not_nil (f x) (map f xs) e)
maps_all f g P Q (x ∷ xs) (y ∷ ys) h e a =
    (h x y (same_head (f x) (g y) (map f xs) (map g ys) e) a.0, maps_all f g P Q xs ys h (same_rest (f x) (g y) (map f xs) (map g ys) e) a.1)

-- what is known of each pair
pub maps_map : {X Y Z : Type 0} (f : X → Z) (g : Y → Z) (h : X → Y) (xs : List X) (ys : List Y) → ((x : X) (y : Y) → f x ≡ g y → h x ≡ y) → map f xs ≡ map g ys → map h xs ≡ ys
maps_map f g h [] [] k e = refl
maps_map f g h [] (y ∷ ys) k e = absurd (nil_not (g y) (map g ys) e)
maps_map f g h (x ∷ xs) [] k e = absurd (not_nil (f x) (map f xs) e)
maps_map f g h (x ∷ xs) (y ∷ ys) k e =
    ap (λ z. z ∷ map h xs) (k x y (same_head (f x) (g y) (map f xs) (map g ys) e)) ∙ ap (λ zs. y ∷ zs) (maps_map f g h xs ys k (same_rest (f x) (g y) (map f xs) (map g ys) e))

-- The least of failing tests.
use Rattle.std.proofs.Common.{◌≡◌, ◌<◌, ◌≤◌, inl, inr, true, false, cond, nat_lt, Option, None, Some, List, [], ◌∷◌, ◌++◌, refl, sym, ap, ◌∙◌, subst, arith}
use Rattle.std.specs.List.{AllByRecursion}
use Rattle.std.proofs.lemmas.Bool.{cases_lt}
use Rattle.std.proofs.lemmas.Bool.Decides.{nat_tests}
use Rattle.std.proofs.lemmas.Option.{same_Some, none-some}
use Rattle.text_core.specs.declared.place.Refusal.{Refusal}
use Rattle.moxi_term_reading.specs.Failures.{key, pick, minimum, least, IsLeast}

pub pick_other : (a b : Refusal) → key b < key a → pick a b ≡ b
pick_other a b h = let e : nat_lt (key b) (key a) ≡ true = grind (arith, nat_tests) in ap (λ t. cond t b a) e

pub pick_first : (a b : Refusal) → key a ≤ key b → pick a b ≡ a
pick_first a b h = let e : nat_lt (key b) (key a) ≡ false = grind (arith, nat_tests) in ap (λ t. cond t b a) e

pub pick_assoc : (a b c : Refusal) → pick a (pick b c) ≡ pick (pick a b) c
pick_assoc a b c =
    elim (cases_lt (key b) (key a)) [
      | inl x ↦ elim (cases_lt (key c) (key b)) [
        | inl y ↦ ap (pick a) (pick_other b c y) ∙ pick_other a c (omega arith) ∙ sym (ap (λ z. pick z c) (pick_other a b x) ∙ pick_other b c y)
        | inr y ↦ ap (pick a) (pick_first b c y) ∙ pick_other a b x ∙ sym (ap (λ z. pick z c) (pick_other a b x) ∙ pick_first b c y)
      ]
      | inr x ↦ elim (cases_lt (key c) (key a)) [
        | inl y ↦ ap (pick a) (pick_other b c (omega arith)) ∙ sym (ap (λ z. pick z c) (pick_first a b x))
        | inr y ↦ elim (cases_lt (key c) (key b)) [
          | inl z ↦ ap (pick a) (pick_other b c z) ∙ sym (ap (λ z. pick z c) (pick_first a b x))
          | inr z ↦ ap (pick a) (pick_first b c z) ∙ pick_first a b x ∙ sym (ap (λ z. pick z c) (pick_first a b x) ∙ pick_first a c y)
        ]
      ]
    ]

pub minimum_assoc : (a b c : Option Refusal) → minimum a (minimum b c) ≡ minimum (minimum a b) c
minimum_assoc None b c = refl
minimum_assoc (Some a) None c = refl
minimum_assoc (Some a) (Some b) None = refl
minimum_assoc (Some a) (Some b) (Some c) = ap Some (pick_assoc a b c)

-- one test after another
pub least_append : (xs ys : List Refusal) → least (xs ++ ys) ≡ minimum (least xs) (least ys)
least_append [] ys = refl
least_append (x ∷ xs) ys = ap (minimum (Some x)) (least_append xs ys) ∙ minimum_assoc (Some x) (least xs) (least ys)

pub least_none : (xs : List Refusal) → least xs ≡ None → xs ≡ []
least_none [] h = refl
least_none (x ∷ xs) h = absurd (some_minimum x (least xs) h)
  where
    some_minimum : (x : Refusal) (o : Option Refusal) → minimum (Some x) o ≡ None → ⊥
    some_minimum x None h = none-some x (sym h)
    some_minimum x (Some y) h = none-some (pick x y) (sym h)

-- what `least` gives is the least one
pub all_after : (f g : Refusal) (xs : List Refusal) → key g ≤ key f → AllByRecursion (λ h. key f ≤ key h) xs → AllByRecursion (λ h. key g ≤ key h) xs
all_after f g [] le a = tt
all_after f g (x ∷ xs) le a = (let h : key f ≤ key x = a.0 in omega arith, all_after f g xs le a.1)

least_more : (x y f : Refusal) (xs : List Refusal) → IsLeast y xs → pick x y ≡ f → IsLeast f (x ∷ xs)
least_more x y f xs l e = elim (cases_lt (key y) (key x)) [
  | inl h ↦ let g : y ≡ f = sym (pick_other x y h) ∙ e in subst (λ f. IsLeast f (x ∷ xs)) g (inr l.0, (omega arith, l.1))
  | inr h ↦ let g : x ≡ f = sym (pick_first x y h) ∙ e in subst (λ f. IsLeast f (x ∷ xs)) g (inl refl, (omega arith, all_after y x xs h l.1))
]

pub is_least : (xs : List Refusal) (f : Refusal) → least xs ≡ Some f → IsLeast f xs
is_least [] f h = absurd (none-some f h)
is_least (x ∷ xs) f h = by_rest x xs (least xs) f (λ y e. is_least xs y e) refl h
  where
    by_rest : (x : Refusal) (xs : List Refusal) (o : Option Refusal) (f : Refusal) → ((y : Refusal) → least xs ≡ Some y → IsLeast y xs) → least xs ≡ o → minimum (Some x) o ≡ Some f → IsLeast f (x ∷ xs)
    by_rest x xs None f ih e h = subst (λ f. IsLeast f (x ∷ xs)) (same_Some x f h) (inl refl, (omega arith, subst (AllByRecursion (λ g. key x ≤ key g)) (sym (least_none xs e)) tt))
    by_rest x xs (Some y) f ih e h = least_more x y f xs (ih y e) (same_Some (pick x y) f h)

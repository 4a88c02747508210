-- The names of modules that stand one inside another.
use Rattle.std.proofs.Common.{◌≡◌, ℕ, Bool, true, false, ◌||◌, List, [], ◌∷◌, ◌++◌, map, reverse, bytes_eq, refl, sym, ◌∙◌, ap}
use Rattle.std.specs.Borrow.{Bor}
use Rattle.std.proofs.lemmas.List.{reverse-append, map-append}
use Rattle.smv_meaning.specs.Instances.{is_one_of}
use Rattle.smv_names.specs.View.{names_above}

or_turned : (a b : Bool) → (a || b) ≡ (b || a)
or_turned true true = refl
or_turned true false = refl
or_turned false true = refl
or_turned false false = refl

or_false : (a : Bool) → (a || false) ≡ a
or_false true = refl
or_false false = refl

or_again : (b c d e : Bool) → e ≡ (c || d) → (b || e) ≡ ((b || c) || d)
or_again true c d e h = refl
or_again false c d e h = h

any_append : (xs ys : List (List ℕ)) (x : List ℕ) → is_one_of (xs ++ ys) x ≡ (is_one_of xs x || is_one_of ys x)
any_append [] ys x = refl
any_append (y ∷ xs) ys x = or_again (bytes_eq y x) (is_one_of xs x) (is_one_of ys x) (is_one_of (xs ++ ys) x) (any_append xs ys x)

pub turned : (xs : List (List ℕ)) (x : List ℕ) → is_one_of (reverse xs) x ≡ is_one_of xs x
turned [] x = refl
turned (y ∷ xs) x =
    ap (λ l. is_one_of l x) (reverse-append (y ∷ []) xs) ∙ any_append (reverse xs) (y ∷ []) x ∙ ap (λ b. b || is_one_of (y ∷ []) x) (turned xs x)
    ∙ or_turned (is_one_of xs x) (bytes_eq y x || false) ∙ ap (λ b. b || is_one_of xs x) (or_false (bytes_eq y x))

pub named_above : (names : List (Bor (List ℕ))) (x : List ℕ) (b : Bool) → b ≡ is_one_of (map (λ m. m.now) names) x → b ≡ is_one_of (names_above names) x
named_above names x b e = e ∙ sym (turned (map (λ m. m.now) names) x)

pub one_above : (names : List (Bor (List ℕ))) (name : Bor (List ℕ)) → names_above (names ++ name ∷ []) ≡ name.now ∷ names_above names
one_above names name = ap reverse (map-append (λ m. m.now) names (name ∷ [])) ∙ reverse-append (map (λ m. m.now) names) (name.now ∷ [])

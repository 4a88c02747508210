-- Places of names in lists that grow, and in lists of names that differ.
use Rattle.std.proofs.Common.{◌≡◌, ℕ, zero, suc, ◌+◌, ◌<◌, Bool, true, false, cond, is_none, List, [], ◌∷◌, ◌++◌, length, Option, None, Some, refl, sym, ap, ◌∙◌, arith, append_assoc}
use Rattle.std.specs.Str.{bytes_eq}
use Rattle.std.proofs.lemmas.Bool.{and_parts}
use Rattle.std.proofs.lemmas.Slice.Eq.{bytes_eq-Decides}
use Rattle.std.proofs.lemmas.Option.{none-some}
use Rattle.std.proofs.lemmas.List.{length-append}
use Rattle.moxi_terms.specs.Names.{or_else}
use Rattle.name_maps.specs.Names.{place_of, are_fresh}
use Rattle.moxi_terms.proofs.PlaceLaws.{place_from, place_is}
use Rattle.moxi_term_print.specs.Terms.{name_at}

pub same_bytes : (q : List ℕ) → bytes_eq q q ≡ true
same_bytes q = (bytes_eq-Decides q q).1 refl

from_both : (n : ℕ) (xs ys : List (List ℕ)) (q : List ℕ) → place_from n (xs ++ ys) q ≡ or_else (place_from n xs q) (place_from (n + length xs) ys q)
from_both n [] ys q = ap (λ m. place_from m ys q) (let e : n ≡ n + 0 = omega arith in e)
from_both n (x ∷ xs) ys q =
    by_test (bytes_eq q x) (from_both (suc n) xs ys q ∙ ap (λ m. or_else (place_from (suc n) xs q) (place_from m ys q)) (let e : suc n + length xs ≡ n + suc (length xs) = omega arith in e))
  where
    by_test : (b : Bool) → place_from (suc n) (xs ++ ys) q ≡ or_else (place_from (suc n) xs q) (place_from (n + suc (length xs)) ys q)
        → cond b (Some n) (place_from (suc n) (xs ++ ys) q) ≡ or_else (cond b (Some n) (place_from (suc n) xs q)) (place_from (n + suc (length xs)) ys q)
    by_test true e = refl
    by_test false e = e

-- one list behind another
pub place_both : (xs ys : List (List ℕ)) (q : List ℕ) → place_of (xs ++ ys) q ≡ or_else (place_of xs q) (place_from (length xs) ys q)
place_both xs ys q =
    place_is (xs ++ ys) q ∙ from_both 0 xs ys q
    ∙ ap (λ o. or_else o (place_from (0 + length xs) ys q)) (sym (place_is xs q))
    ∙ ap (λ m. or_else (place_of xs q) (place_from m ys q)) (let e : 0 + length xs ≡ length xs = omega arith in e)

pub place_front : (xs ys : List (List ℕ)) (q : List ℕ) (k : ℕ) → place_of xs q ≡ Some k → place_of (xs ++ ys) q ≡ Some k
place_front xs ys q k e = place_both xs ys q ∙ ap (λ o. or_else o (place_from (length xs) ys q)) e

none_from : (n m : ℕ) (ys : List (List ℕ)) (q : List ℕ) → place_from n ys q ≡ None → place_from m ys q ≡ None
none_from n m [] q e = refl
none_from n m (y ∷ ys) q e = by_test (bytes_eq q y) e (λ f. none_from (suc n) (suc m) ys q f)
  where
    by_test : (b : Bool) → cond b (Some n) (place_from (suc n) ys q) ≡ None → (place_from (suc n) ys q ≡ None → place_from (suc m) ys q ≡ None) → cond b (Some m) (place_from (suc m) ys q) ≡ None
    by_test true e f = absurd (none-some n (sym e))
    by_test false e f = f e

pub place_neither : (xs ys : List (List ℕ)) (q : List ℕ) → place_of xs q ≡ None → place_of ys q ≡ None → place_of (xs ++ ys) q ≡ None
place_neither xs ys q e f =
    place_both xs ys q ∙ ap (λ o. or_else o (place_from (length xs) ys q)) e ∙ none_from 0 (length xs) ys q (sym (place_is ys q) ∙ f)

place_here : (n : ℕ) (x : List ℕ) (xs : List (List ℕ)) → place_from n (x ∷ xs) x ≡ Some n
place_here n x xs = ap (λ b. cond b (Some n) (place_from (suc n) xs x)) (same_bytes x)

is_none_is : (o : Option ℕ) → is_none o ≡ true → o ≡ None
is_none_is None h = refl
is_none_is (Some n) h = absurd (cc)

fresh_from : (names before : List (List ℕ)) (i : ℕ) → are_fresh before names ≡ true → i < length names → place_of (before ++ names) (name_at names i) ≡ Some (length before + i)
fresh_from [] before i h l = absurd (omega arith)
fresh_from (x ∷ xs) before zero h l =
    let p = and_parts (is_none (place_of before x)) (are_fresh (before ++ x ∷ []) xs) h in
    place_both before (x ∷ xs) x ∙ ap (λ o. or_else o (place_from (length before) (x ∷ xs) x)) (is_none_is (place_of before x) p.0) ∙ place_here (length before) x xs
    ∙ ap Some (let e : length before ≡ length before + 0 = omega arith in e)
fresh_from (x ∷ xs) before (suc j) h l =
    let p = and_parts (is_none (place_of before x)) (are_fresh (before ++ x ∷ []) xs) h in
    ap (λ ys. place_of ys (name_at xs j)) (sym (append_assoc before (x ∷ []) xs))
    ∙ fresh_from xs (before ++ x ∷ []) j p.1 (omega arith)
    ∙ ap Some (let e : length (before ++ x ∷ []) + j ≡ length before + suc j = omega (arith, length-append before (x ∷ [])) in e)

-- names that differ are found at their places
pub fresh_place : (names : List (List ℕ)) (i : ℕ) → are_fresh [] names ≡ true → i < length names → place_of names (name_at names i) ≡ Some i
fresh_place names i h l = fresh_from names [] i h l ∙ ap Some (let e : 0 + i ≡ i = omega arith in e)

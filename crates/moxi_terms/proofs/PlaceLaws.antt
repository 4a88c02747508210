-- Places of names, and elements of lists by their places.
use Rattle.std.proofs.Common.{◌≡◌, ℕ, zero, suc, ◌+◌, ◌<◌, ◌≤◌, Bool, true, false, not, cond, nat_lt, List, [], ◌∷◌, ◌++◌, length, take, Option, None, Some, refl, sym, ap, ◌∙◌, subst, arith, inl, inr}
use Rattle.std.specs.Prelude.{slice_get, slice_index_or}
use Rattle.std.specs.List.{position_or_len}
use Rattle.std.specs.Str.{bytes_eq}
use Rattle.std.proofs.lemmas.Bool.{cases_Bool}
use Rattle.std.proofs.lemmas.Slice.Eq.{bytes_eq-Decides}
use Rattle.std.proofs.lemmas.Option.{same_Some, none-some, slice_get_within}
use Rattle.moxi_terms.specs.Names.{or_else}
use Rattle.name_maps.specs.Names.{place_of}
use Rattle.name_maps.specs.laws.Places.{lt_more}

-- the place of the first name equal to these bytes, counted from n
abbrev pub place_from : ℕ → List (List ℕ) → List ℕ → Option ℕ
place_from n [] q = None
place_from n (x ∷ xs) q = cond (bytes_eq q x) (Some n) (place_from (suc n) xs q)

-- as many places more
abbrev later : ℕ → Option ℕ → Option ℕ
later n None = None
later n (Some k) = Some (n + k)

later_zero : (o : Option ℕ) → later 0 o ≡ o
later_zero None = refl
later_zero (Some k) = ap Some (let e : 0 + k ≡ k = omega arith in e)

moved : (n k : ℕ) (c : Bool) → later (suc n) (cond c (Some k) None) ≡ later n (cond c (Some (1 + k)) None)
moved n k true = ap Some (let e : suc n + k ≡ n + (1 + k) = omega arith in e)
moved n k false = refl

from_step : (n k m : ℕ) (o : Option ℕ) (b : Bool) → o ≡ later (suc n) (cond (nat_lt k m) (Some k) None)
    → cond b (Some n) o ≡ later n (cond (nat_lt (cond (not b) (1 + k) 0) (suc m)) (Some (cond (not b) (1 + k) 0)) None)
from_step n k m o true ih = let t : nat_lt 0 (suc m) ≡ true = grind arith in ap Some (let e : n ≡ n + 0 = omega arith in e) ∙ sym (ap (λ b. later n (cond b (Some 0) None)) t)
from_step n k m o false ih = ih ∙ moved n k (nat_lt k m) ∙ sym (ap (λ c. later n (cond c (Some (1 + k)) None)) (lt_more k m))

from_is : (n : ℕ) (xs : List (List ℕ)) (q : List ℕ) → place_from n xs q ≡ later n (place_of xs q)
from_is n [] q = refl
from_is n (x ∷ xs) q = from_step n (position_or_len (bytes_eq q) xs) (length xs) (place_from (suc n) xs q) (bytes_eq q x) (from_is (suc n) xs q)

pub place_is : (xs : List (List ℕ)) (q : List ℕ) → place_of xs q ≡ place_from 0 xs q
place_is xs q = sym (from_is 0 xs q ∙ later_zero (place_of xs q))

from_more : (n m : ℕ) (b c : Bool) (o r : Option ℕ) → o ≡ or_else r (cond c (Some (suc n + m)) None) → cond b (Some n) o ≡ or_else (cond b (Some n) r) (cond c (Some (n + suc m)) None)
from_more n m true c o r e = refl
from_more n m false c o r e = e ∙ ap (λ k. or_else r (cond c (Some k) None)) (let e : suc n + m ≡ n + suc m = omega arith in e)

from_append : (n : ℕ) (xs : List (List ℕ)) (x q : List ℕ) → place_from n (xs ++ x ∷ []) q ≡ or_else (place_from n xs q) (cond (bytes_eq q x) (Some (n + length xs)) None)
from_append n [] x q = ap (λ k. cond (bytes_eq q x) (Some k) None) (let e : n ≡ n + 0 = omega arith in e)
from_append n (y ∷ ys) x q = from_more n (length ys) (bytes_eq q y) (bytes_eq q x) (place_from (suc n) (ys ++ x ∷ []) q) (place_from (suc n) ys q) (from_append (suc n) ys x q)

-- one more name behind the others
pub place_append : (xs : List (List ℕ)) (x q : List ℕ) → place_of (xs ++ x ∷ []) q ≡ or_else (place_of xs q) (cond (bytes_eq q x) (Some (length xs)) None)
place_append xs x q =
    place_is (xs ++ x ∷ []) q ∙ from_append 0 xs x q
    ∙ ap (λ o. or_else o (cond (bytes_eq q x) (Some (0 + length xs)) None)) (sym (place_is xs q))
    ∙ ap (λ k. or_else (place_of xs q) (cond (bytes_eq q x) (Some k) None)) (let e : 0 + length xs ≡ length xs = omega arith in e)

from_there : (n : ℕ) (xs : List (List ℕ)) (q : List ℕ) (k : ℕ) → place_from n xs q ≡ Some k → (j : ℕ) × (k ≡ n + j) × (slice_get xs j ≡ Some q)
from_there n [] q k e = absurd (none-some k e)
from_there n (x ∷ xs) q k e =
    elim (cases_Bool (bytes_eq q x)) [
      | inl t ↦ let s : n ≡ k = same_Some n k (sym (ap (λ b. cond b (Some n) (place_from (suc n) xs q)) t) ∙ e) in (0, omega arith, ap Some (sym ((bytes_eq-Decides q x).0 t)))
      | inr f ↦ let r = from_there (suc n) xs q k (sym (ap (λ b. cond b (Some n) (place_from (suc n) xs q)) f) ∙ e) in (suc r.0, omega (arith, r.1), r.2)
    ]

-- what is at the place that was found
pub place_there : (xs : List (List ℕ)) (q : List ℕ) (k : ℕ) → place_of xs q ≡ Some k → slice_get xs k ≡ Some q
place_there xs q k e =
    let r = from_there 0 xs q k (sym (place_is xs q) ∙ e) in
    subst (λ i. slice_get xs i ≡ Some q) (let s : r.0 ≡ k = omega (arith, r.1) in s) r.2

pub place_within : (xs : List (List ℕ)) (q : List ℕ) (k : ℕ) → place_of xs q ≡ Some k → k < length xs
place_within xs q k e = slice_get_within xs k q (place_there xs q k e)

pub index_read : {A : Type 0} (xs : List A) (k : ℕ) (x d : A) → slice_get xs k ≡ Some x → slice_index_or xs k d ≡ x
index_read [] k x d e = absurd (none-some x e)
index_read (y ∷ ys) zero x d e = same_Some y x e
index_read (y ∷ ys) (suc k) x d e = index_read ys k x d e

-- an element of a front, and what is behind it
pub get_front : {A : Type 0} (xs ys : List A) (k : ℕ) → k < length xs → slice_get (xs ++ ys) k ≡ slice_get xs k
get_front [] ys k h = absurd (omega arith)
get_front (x ∷ xs) ys zero h = refl
get_front (x ∷ xs) ys (suc k) h = get_front xs ys k (omega arith)

pub get_taken : {A : Type 0} (n : ℕ) (xs : List A) (k : ℕ) → k < n → slice_get (take n xs) k ≡ slice_get xs k
get_taken zero xs k h = absurd (omega arith)
get_taken (suc n) [] k h = refl
get_taken (suc n) (x ∷ xs) zero h = refl
get_taken (suc n) (x ∷ xs) (suc k) h = get_taken n xs k (omega arith)

pub get_end : {A : Type 0} (xs : List A) (x : A) (k : ℕ) → k ≡ length xs → slice_get (xs ++ x ∷ []) k ≡ Some x
get_end [] x zero h = refl
get_end [] x (suc k) h = absurd (omega arith)
get_end (y ∷ ys) x zero h = absurd (omega arith)
get_end (y ∷ ys) x (suc k) h = get_end ys x k (omega arith)

pub take_whole : {A : Type 0} (xs : List A) → take (length xs) xs ≡ xs
take_whole [] = refl
take_whole (x ∷ xs) = ap (λ ys. x ∷ ys) (take_whole xs)

pub length_taken : {A : Type 0} (n : ℕ) (xs : List A) → n ≤ length xs → length (take n xs) ≡ n
length_taken zero xs h = refl
length_taken (suc n) [] h = absurd (omega arith)
length_taken (suc n) (x ∷ xs) h = ap suc (length_taken n xs (omega arith))

-- an element of a front that something is behind
pub get_kept : {A : Type 0} (n : ℕ) (xs ys : List A) (k : ℕ) → n ≤ length xs → k < n → slice_get (take n xs ++ ys) k ≡ slice_get xs k
get_kept n xs ys k l h = get_front (take n xs) ys k (omega (arith, length_taken n xs l)) ∙ get_taken n xs k h

-- Names that differ: lists put together, and names that are put between them.
use Rattle.std.proofs.Common.{◌≡◌, ℕ, ◌+◌, Bool, true, false, not, ◌&&◌, ◌||◌, is_none, List, [], ◌∷◌, ◌++◌, refl, sym, ap, ◌∙◌, append_assoc, append-nil}
use Rattle.std.specs.List.{AllByRecursion, list_any}
use Rattle.std.specs.Str.{bytes_eq}
use Rattle.std.proofs.lemmas.Bool.{and_parts}
use Rattle.std.proofs.lemmas.List.Folds.{list_any-append}
use Rattle.std.proofs.lemmas.Slice.Eq.{bytes_eq-Decides}
use Rattle.name_maps.specs.Names.{are_fresh, place_of}
use Rattle.name_maps.specs.laws.Places.{placed}

-- no name of the list is equal to this one
abbrev pub Absent : List (List ℕ) → List ℕ → Type 0
Absent names name = list_any (bytes_eq name) names ≡ false

pub or_parts : (a b : Bool) → (a || b) ≡ false → (a ≡ false) × (b ≡ false)
or_parts true b h = absurd (cc)
or_parts false b h = (refl, h)

pub or_both : (a b : Bool) → a ≡ false → b ≡ false → (a || b) ≡ false
or_both true b h g = h
or_both false b h g = g

pub and_both : (a b : Bool) → a ≡ true → b ≡ true → (a && b) ≡ true
and_both true b h g = g
and_both false b h g = h

pub not_true : (b : Bool) → not b ≡ true → b ≡ false
not_true true h = absurd (cc)
not_true false h = refl

pub absent_is : (names : List (List ℕ)) (name : List ℕ) → is_none (place_of names name) ≡ true → Absent names name
absent_is names name h = not_true (list_any (bytes_eq name) names) (sym (placed names name) ∙ h)

pub is_absent : (names : List (List ℕ)) (name : List ℕ) → Absent names name → is_none (place_of names name) ≡ true
is_absent names name h = placed names name ∙ ap not h

pub absent_append : (xs ys : List (List ℕ)) (name : List ℕ) → Absent xs name → Absent ys name → Absent (xs ++ ys) name
absent_append xs ys name h g = list_any-append (bytes_eq name) xs ys ∙ or_both (list_any (bytes_eq name) xs) (list_any (bytes_eq name) ys) h g

pub absent_parts : (xs ys : List (List ℕ)) (name : List ℕ) → Absent (xs ++ ys) name → Absent xs name × Absent ys name
absent_parts xs ys name h = or_parts (list_any (bytes_eq name) xs) (list_any (bytes_eq name) ys) (sym (list_any-append (bytes_eq name) xs ys) ∙ h)

-- ONE BEHIND THE OTHER

pub fresh_first : (before : List (List ℕ)) (name : List ℕ) (names : List (List ℕ)) → are_fresh before (name ∷ names) ≡ true → Absent before name × (are_fresh (before ++ name ∷ []) names ≡ true)
fresh_first before name names h =
    let p = and_parts (is_none (place_of before name)) (are_fresh (before ++ name ∷ []) names) h in
    (absent_is before name p.0, p.1)

pub fresh_more : (before : List (List ℕ)) (name : List ℕ) (names : List (List ℕ)) → Absent before name → are_fresh (before ++ name ∷ []) names ≡ true → are_fresh before (name ∷ names) ≡ true
fresh_more before name names h g = and_both (is_none (place_of before name)) (are_fresh (before ++ name ∷ []) names) (is_absent before name h) g

moved : (before : List (List ℕ)) (name : List ℕ) (xs ys : List (List ℕ)) → are_fresh (before ++ name ∷ xs) ys ≡ are_fresh ((before ++ name ∷ []) ++ xs) ys
moved before name xs ys = ap (λ b. are_fresh b ys) (sym (append_assoc before (name ∷ []) xs))

pub fresh_join : (before xs ys : List (List ℕ)) → are_fresh before xs ≡ true → are_fresh (before ++ xs) ys ≡ true → are_fresh before (xs ++ ys) ≡ true
fresh_join before [] ys h g = ap (λ b. are_fresh b ys) (sym (append-nil before)) ∙ g
fresh_join before (x ∷ xs) ys h g =
    let p = fresh_first before x xs h in
    fresh_more before x (xs ++ ys) p.0 (fresh_join (before ++ x ∷ []) xs ys p.1 (sym (moved before x xs ys) ∙ g))

pub fresh_split : (before xs ys : List (List ℕ)) → are_fresh before (xs ++ ys) ≡ true → (are_fresh before xs ≡ true) × (are_fresh (before ++ xs) ys ≡ true)
fresh_split before [] ys h = (refl, ap (λ b. are_fresh b ys) (append-nil before) ∙ h)
fresh_split before (x ∷ xs) ys h =
    let p = fresh_first before x (xs ++ ys) h in
    let q = fresh_split (before ++ x ∷ []) xs ys p.1 in
    (fresh_more before x xs p.0 q.0, moved before x xs ys ∙ q.1)

pub fresh_end : (names : List (List ℕ)) (name : List ℕ) → are_fresh [] names ≡ true → Absent names name → are_fresh [] (names ++ name ∷ []) ≡ true
fresh_end names name h g = fresh_join [] names (name ∷ []) h (fresh_more names name [] g refl)

-- NAMES BETWEEN OTHERS

pub fresh_with : (before after xs ys : List (List ℕ)) → ((name : List ℕ) → Absent before name → Absent xs name → Absent after name) → AllByRecursion (Absent xs) ys
    → are_fresh before ys ≡ true → are_fresh after ys ≡ true
fresh_with before after xs [] f a h = refl
fresh_with before after xs (y ∷ ys) f a h =
    let p = fresh_first before y ys h in
    fresh_more after y ys (f y p.0 a.0)
    (fresh_with (before ++ y ∷ []) (after ++ y ∷ []) xs ys
    (λ name k g. let q = absent_parts before (y ∷ []) name k in absent_append after (y ∷ []) name (f name q.0 g) q.1) a.1 p.1)

pub fresh_between : (xs ys zs : List (List ℕ)) → are_fresh [] (xs ++ zs) ≡ true → are_fresh xs ys ≡ true → AllByRecursion (Absent ys) zs → are_fresh [] ((xs ++ ys) ++ zs) ≡ true
fresh_between xs ys zs h g a =
    let p = fresh_split [] xs zs h in
    fresh_join [] (xs ++ ys) zs (fresh_join [] xs ys p.0 g) (fresh_with xs (xs ++ ys) ys zs (λ name k l. absent_append xs ys name k l) a p.1)

-- names that none of the others equals aren't equal to any of them
pub other_way : (x y : List ℕ) → bytes_eq x y ≡ false → bytes_eq y x ≡ false
other_way x y h = by_test (bytes_eq y x) refl
  where
    by_test : (b : Bool) → bytes_eq y x ≡ b → b ≡ false
    by_test true e = let same : y ≡ x = (bytes_eq-Decides y x).0 e in let t : bytes_eq x y ≡ true = (bytes_eq-Decides x y).1 (sym same) in absurd (cc)
    by_test false e = refl

pub absent_swap : (xs ys : List (List ℕ)) → AllByRecursion (Absent ys) xs → AllByRecursion (Absent xs) ys
absent_swap [] ys a = none ys
  where
    none : (ys : List (List ℕ)) → AllByRecursion (Absent []) ys
    none [] = tt
    none (y ∷ ys) = (refl, none ys)
absent_swap (x ∷ xs) ys a = each ys a.0 (absent_swap xs ys a.1)
  where
    each : (ys : List (List ℕ)) → Absent ys x → AllByRecursion (Absent xs) ys → AllByRecursion (Absent (x ∷ xs)) ys
    each [] h b = tt
    each (y ∷ ys) h b =
        let p = or_parts (bytes_eq x y) (list_any (bytes_eq x) ys) h in
        (or_both (bytes_eq y x) (list_any (bytes_eq y) xs) (other_way x y p.0) b.0, each ys p.1 b.1)

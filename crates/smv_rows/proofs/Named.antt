-- Names that were declared stay so.
use Rattle.std.proofs.Common.{◌≡◌, ℕ, suc, Bool, true, false, ◌||◌, if◌then◌else◌, List, [], ◌∷◌, ◌++◌, Option, Some, None, option_map, is_some, is_none, position, bytes_eq, refl, sym, ap, ◌∙◌, subst}
use Rattle.std.specs.List.{list_any, list_all}
use Rattle.std.proofs.lemmas.List.Folds.{list_any-append}
use Rattle.std.proofs.lemmas.Slice.Eq.{bytes_eq-Decides}
use Rattle.name_maps.specs.Names.{place_of}
use Rattle.smv_meaning.specs.laws.Booleans.{two_true}
use Rattle.smv_items.specs.declared.items.FlatItem.{FlatItem}
use Rattle.smv_flat_laws.proofs.FlatPlaces.{position_cons}
use Rattle.smv_rows.specs.Places.{is_named}

there_is : {X : Type 0} (p : X → Bool) (xs : List X) → is_some (position p xs) ≡ list_any p xs
there_is p [] = refl
there_is p (x ∷ xs) = ap is_some (position_cons p x xs) ∙ by (there_is p xs) (p x)
  where
    kept : (o : Option ℕ) → is_some (option_map suc o) ≡ is_some o
    kept None = refl
    kept (Some k) = refl

    by : is_some (position p xs) ≡ list_any p xs → (b : Bool) → is_some (if b then Some 0 else option_map suc (position p xs)) ≡ (b || list_any p xs)
    by h true = refl
    by h false = kept (position p xs) ∙ h

or_true : (a b : Bool) → a ≡ true → (a || b) ≡ true
or_true true b h = refl
or_true false b h = cc

or_last : (a b : Bool) → b ≡ true → (a || b) ≡ true
or_last true b h = refl
or_last false b h = h

-- what is named is named in more
abbrev pub Keeps : List (List ℕ) → List (List ℕ) → Type 0
Keeps old new = (x : List ℕ) → is_some (place_of old x) ≡ true → is_some (place_of new x) ≡ true

named_behind : (names : List (List ℕ)) (name x : List ℕ) → is_some (place_of names x) ≡ true → is_some (place_of (names ++ name ∷ []) x) ≡ true
named_behind names name x h =
    there_is (bytes_eq x) (names ++ name ∷ []) ∙ list_any-append (bytes_eq x) names (name ∷ [])
    ∙ or_true (list_any (bytes_eq x) names) (list_any (bytes_eq x) (name ∷ [])) (sym (there_is (bytes_eq x) names) ∙ h)

named_last : (names : List (List ℕ)) (name : List ℕ) → is_some (place_of (names ++ name ∷ []) name) ≡ true
named_last names name =
    there_is (bytes_eq name) (names ++ name ∷ []) ∙ list_any-append (bytes_eq name) names (name ∷ [])
    ∙ or_last (list_any (bytes_eq name) names) (list_any (bytes_eq name) (name ∷ [])) (or_true (bytes_eq name name) false ((bytes_eq-Decides name name).1 refl))

pub declared_keeps : (names later : List (List ℕ)) (name : List ℕ) (fresh : Bool) → later ≡ (if fresh then names ++ name ∷ [] else names) → Keeps names later
declared_keeps names later name true e x h = subst (λ ns. is_some (place_of ns x) ≡ true) (sym e) (named_behind names name x h)
declared_keeps names later name false e x h = subst (λ ns. is_some (place_of ns x) ≡ true) (sym e) h

pub declared_is : (names later : List (List ℕ)) (name : List ℕ) (fresh : Bool) → fresh ≡ is_none (place_of names name) → later ≡ (if fresh then names ++ name ∷ [] else names)
    → is_some (place_of later name) ≡ true
declared_is names later name true f e = subst (λ ns. is_some (place_of ns name) ≡ true) (sym e) (named_last names name)
declared_is names later name false f e = subst (λ ns. is_some (place_of ns name) ≡ true) (sym e) (by (place_of names name) f)
  where
    by : (o : Option ℕ) → false ≡ is_none o → is_some o ≡ true
    by None h = cc
    by (Some k) h = refl

-- each item behind a place is named, so all are
abbrev pub NamesOn : List (List ℕ) → List FlatItem → List FlatItem → Type 0
NamesOn names rest all = (later : List (List ℕ)) → Keeps names later → list_all (is_named later) rest ≡ true → list_all (is_named later) all ≡ true

pub names_on : (names new : List (List ℕ)) (m : FlatItem) (rest all : List FlatItem) → Keeps names new → is_some (place_of new m.name) ≡ true → NamesOn names (m ∷ rest) all → NamesOn new rest all
names_on names new m rest all keeps named h later k r =
    h later (λ x s. k x (keeps x s)) (two_true (is_named later m) (list_all (is_named later) rest) (k m.name named) r)

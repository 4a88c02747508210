-- Lists of symbols.
use Rattle.std.proofs.Common.{◌≡◌, ℕ, ◌||◌, Bool, true, false, not, if◌then◌else◌, is_none, List, [], ◌∷◌, ◌++◌, refl, sym, ap, ◌∙◌}
use Rattle.std.proofs.lemmas.Slice.Eq.{bytes_eq-Decides}
use Rattle.std.specs.List.{list_any}
use Rattle.std.specs.Str.{bytes_eq}
use Rattle.name_maps.specs.Names.{place_of}
use Rattle.name_maps.specs.laws.Places.{placed}
use Rattle.smv_meaning.specs.Instances.{is_one_of}
use Rattle.smv_items.specs.FlatItems.{gathered}

pub gathered_joined : (seen xs ys : List (List ℕ)) → gathered seen (xs ++ ys) ≡ gathered (gathered seen xs) ys
gathered_joined seen [] ys = refl
gathered_joined seen (x ∷ xs) ys = gathered_joined (if is_one_of seen x then seen else seen ++ x ∷ []) xs ys

same_eq : (x y : List ℕ) → bytes_eq x y ≡ bytes_eq y x
same_eq x y = by (bytes_eq x y) (bytes_eq y x) refl refl
  where
    by : (a b : Bool) → bytes_eq x y ≡ a → bytes_eq y x ≡ b → a ≡ b
    by true true e f = refl
    by false false e f = refl
    by true false e f = sym ((bytes_eq-Decides y x).1 (sym ((bytes_eq-Decides x y).0 e))) ∙ f
    by false true e f = sym e ∙ (bytes_eq-Decides x y).1 (sym ((bytes_eq-Decides y x).0 f))

any_one : (name : List ℕ) (names : List (List ℕ)) → list_any (bytes_eq name) names ≡ is_one_of names name
any_one name [] = refl
any_one name (x ∷ xs) = ap (λ b. bytes_eq name x || b) (any_one name xs) ∙ ap (λ b. b || is_one_of xs name) (same_eq name x)

-- a symbol that is put where it is new
pub noted : (b : Bool) (old new : List (List ℕ)) (name : List ℕ) → b ≡ is_none (place_of old name) → new ≡ (if b then old ++ name ∷ [] else old) → new ≡ gathered old (name ∷ [])
noted b old new name e h = by b (is_one_of old name) (e ∙ placed old name ∙ ap not (any_one name old)) h
  where
    by : (b c : Bool) → b ≡ not c → new ≡ (if b then old ++ name ∷ [] else old) → new ≡ (if c then old else old ++ name ∷ [])
    by true true e h = cc
    by true false e h = h
    by false true e h = h
    by false false e h = cc

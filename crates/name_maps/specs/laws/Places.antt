-- Places of names in a list.
use Rattle.std.proofs.Common.{◌≡◌, ◌<◌, ◌+◌, ◌||◌, ℕ, suc, Bool, true, false, not, cond, nat_lt, Some, None, is_none, List, [], ◌∷◌, length, refl, ap, ◌∙◌, arith}
use Rattle.std.specs.List.{position_or_len, list_any}
use Rattle.std.specs.Str.{bytes_eq}
use Rattle.name_maps.specs.Names.{place_of}

-- a place that was found is one of the list
pub found_below : (b : Bool) (n m i : ℕ) → nat_lt n m ≡ b → cond b (Some n) None ≡ Some i → i < m
found_below true n m i t e = let same : n ≡ i = cc in grind arith
found_below false n m i t e = cc

pub place_below : (names : List (List ℕ)) (name : List ℕ) (i : ℕ) → place_of names name ≡ Some i → i < length names
place_below names name i e = found_below (nat_lt (position_or_len (bytes_eq name) names) (length names)) _ (length names) i refl e

-- a name has a place where some name is equal to it
pub lt_more : (a b : ℕ) → nat_lt (1 + a) (suc b) ≡ nat_lt a b
lt_more a b = grind arith

pub any_place : (p : List ℕ → Bool) (names : List (List ℕ)) → nat_lt (position_or_len p names) (length names) ≡ list_any p names
any_place p [] = refl
any_place p (name ∷ names) = go (p name) (any_place p names)
  where
    go : (b : Bool) → nat_lt (position_or_len p names) (length names) ≡ list_any p names → nat_lt (cond (not b) (1 + position_or_len p names) 0) (suc (length names)) ≡ (b || list_any p names)
    go true ih = grind arith
    go false ih = lt_more (position_or_len p names) (length names) ∙ ih

pub placed : (names : List (List ℕ)) (name : List ℕ) → is_none (place_of names name) ≡ not (list_any (bytes_eq name) names)
placed names name = go (nat_lt (position_or_len (bytes_eq name) names) (length names)) ∙ ap not (any_place (bytes_eq name) names)
  where
    go : (b : Bool) → is_none (cond b (Some (position_or_len (bytes_eq name) names)) None) ≡ not b
    go true = refl
    go false = refl

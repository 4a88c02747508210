-- The keys of a set of names.
use Rattle.std.proofs.Common.{◌≡◌, ◌<◌, ◌+◌, take, zero, ◌||◌, ℕ, suc, not, cond, nat_lt, Some, None, is_none, List, [], ◌∷◌, ◌++◌, length, map, refl, sym, ap, ◌∙◌, arith, append_assoc}
use Rattle.std.proofs.lemmas.List.{length-map}
use Rattle.std.specs.List.{position, position_or_len, list_any, slice_get}
use Rattle.std.specs.Str.{bytes_eq}
use Rattle.name_maps.specs.declared.key.Key.{Key}
use Rattle.name_maps.specs.Names.{place_of}
use Rattle.name_maps.specs.laws.Places.{placed}

-- the keys of the code are the names
place_there : (name : List ℕ) (keys : List Key) → position_or_len (λ key. bytes_eq name key.name) keys ≡ position_or_len (bytes_eq name) (map (λ key. key.name) keys)
place_there name [] = refl
place_there name (key ∷ keys) = ap (λ n. cond (not (bytes_eq name key.name)) (1 + n) 0) (place_there name keys)

pub place_in : (name : List ℕ) (keys : List Key) → position (λ key. bytes_eq name key.name) keys ≡ place_of (map (λ key. key.name) keys) name
place_in name keys =
    let a : position_or_len (λ key. bytes_eq name key.name) keys ≡ position_or_len (bytes_eq name) (map (λ key. key.name) keys) = place_there name keys in
    let b : length keys ≡ length (map (λ key. key.name) keys) = sym (length-map keys (λ key. key.name)) in
    let n = position_or_len (bytes_eq name) (map (λ key. key.name) keys) in
    ap (λ n. cond (nat_lt n (length keys)) (Some n) None) a ∙ ap (λ m. cond (nat_lt n m) (Some n) None) b

-- a key that the code inserts
pub fresh_name : (names : List (List ℕ)) (name : List ℕ) (keys : List Key) (key : Key) → map (λ key. key.name) keys ≡ names → key.name ≡ name
    → not (list_any (λ other. bytes_eq key.name other.name) keys) ≡ is_none (place_of names name)
fresh_name names name keys key e f =
    ap (λ n. not (list_any (λ other. bytes_eq n other.name) keys)) f ∙ ap not (any_key name keys) ∙ ap (λ ns. not (list_any (bytes_eq name) ns)) e ∙ sym (placed names name)
  where
    any_key : (name : List ℕ) (keys : List Key) → list_any (λ other. bytes_eq name other.name) keys ≡ list_any (bytes_eq name) (map (λ key. key.name) keys)
    any_key name [] = refl
    any_key name (key ∷ keys) = ap (λ b. bytes_eq name key.name || b) (any_key name keys)

pub take_names : (n : ℕ) (keys : List Key) → map (λ key. key.name) (take n keys) ≡ take n (map (λ key. key.name) keys)
take_names zero keys = refl
take_names (suc n) [] = refl
take_names (suc n) (key ∷ keys) = ap (λ names. key.name ∷ names) (take_names n keys)

-- the name of a key by its place
pub name_at : (keys : List Key) (k : ℕ) (key : Key) → Some key ≡ slice_get keys k → slice_get (map (λ key. key.name) keys) k ≡ Some key.name
name_at [] k key is = cc
name_at (x ∷ keys) zero key is = cc
name_at (x ∷ keys) (suc k) key is = name_at keys k key is

-- each name has a key
pub key_there : (keys : List Key) (k : ℕ) → k < length (map (λ key. key.name) keys) → None ≡ slice_get keys k → ⊥
key_there [] k low is = absurd (omega (arith, low))
key_there (x ∷ keys) zero low is = cc
key_there (x ∷ keys) (suc k) low is = key_there keys k (omega (arith, low)) is

-- what was put at the end counts as the front of what is to come
pub joined_on : {X : Type 0} (front more : List X) (x : X) → (front ++ x ∷ []) ++ more ≡ front ++ x ∷ more
joined_on front more x = append_assoc front (x ∷ []) more

-- How names are found with no scan.
use Rattle.std.specs.Prelude.{◌≡◌, ◌<◌, ◌^◌, ℕ, suc, Option, None, Some, List, [], length, take, map, slice_get, slice_index_or, if◌then◌else◌, ◌∷◌}
use Rattle.std.specs.List.{AllByRecursion}
use Rattle.moxi_terms.specs.declared.data.Sort.{Sort}
use Rattle.moxi_term_reading.specs.declared.locals.Local.{Local}
use Rattle.moxi_term_reading.specs.declared.locals.Binding.{Binding}
use Rattle.moxi_terms.specs.Names.{or_else}
use Rattle.name_maps.specs.Names.{place_of}
use Rattle.std.specs.Str.{bytes_eq}

-- a name that is found: its number, and its sort where it has one
pub record Found : Type 0 where
  pub number : ℕ
  pub sort : Option Sort

-- the first of this name, counted from n
abbrev pub first_of : ℕ → List Local → List ℕ → Option Found
first_of n [] name = None
first_of n (x ∷ xs) name = if bytes_eq name x.name then Some (record { number = n; sort = x.sort }) else first_of (suc n) xs name

-- the last of this name
abbrev pub last_of : ℕ → List Local → List ℕ → Option Found
last_of n [] name = None
last_of n (x ∷ xs) name = or_else (last_of (suc n) xs name) (if bytes_eq name x.name then Some (record { number = n; sort = x.sort }) else None)

abbrev pub found : Option (ℕ × Option Sort) → Option Found
found None = None
found (Some x) = Some (record { number = x.0; sort = x.1 })

abbrev pub found_number : Option Found → Option ℕ
found_number None = None
found_number (Some f) = Some f.number

abbrev pub number_at : List ℕ → Option ℕ → Option ℕ
number_at numbers None = None
number_at numbers (Some p) = slice_get numbers p

-- each name has the number of the first variable of this name; numbers behind the names count for nothing
pub record IsIndexed (locals : List Local) (names : List (List ℕ)) (firsts : List ℕ) : Type 0 where
  pub first : (name : List ℕ) → number_at firsts (place_of names name) ≡ found_number (first_of 0 locals name)
  pub long : length names < suc (length firsts)
  pub few : length locals < 2 ^ 32

abbrev pub name_at : List (List ℕ) → ℕ → List ℕ
name_at names key = slice_index_or names key []

abbrev pub locals_in : List (List ℕ) → List Binding → List Local
locals_in names bs = map (λ (b : Binding). record { name = name_at names b.key; sort = b.sort }) bs

-- Each name has the number of its last binding, and each binding that of the last one of its name before it. What stands
-- behind the names counts for nothing.
pub record IsStacked (names : List (List ℕ)) (bindings : List Binding) (lasts : List (Option ℕ)) : Type 0 where
  pub last : (name : List ℕ) (key : ℕ) → place_of names name ≡ Some key → slice_get lasts key ≡ Some (found_number (last_of 0 (locals_in names bindings) name))
  pub placed : AllByRecursion (λ (b : Binding). place_of names (name_at names b.key) ≡ Some b.key) bindings
  pub before : (i : ℕ) (b : Binding) → slice_get bindings i ≡ Some b → b.before ≡ found_number (last_of 0 (take i (locals_in names bindings)) (name_at names b.key))
  pub long : length names < suc (length lasts)

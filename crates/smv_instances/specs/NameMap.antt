-- Values by the bytes of a name.
use Rattle.std.specs.Prelude.{◌≡◌, ℕ, Bool, ◌&&◌, nat_le, if◌then◌else◌, List, map, length, slice_get, position, Option, Some, None, is_some}
use Rattle.std.specs.Option.{option_map}
use Rattle.std.specs.Borrow.{Bor}
use Rattle.std.specs.HashMap.{HashMap}
use Rattle.smv_text.specs.declared.tree.Module.{Module}
use Rattle.smv_text.specs.Tree.{PlainModule}
use Rattle.smv_text.specs.View.{plain_module}
use Rattle.smv_meaning.specs.Instances.{Instance, module_named}
use Rattle.smv_instances.specs.declared.instances.Instance.{Instance as PartOf}
use Rattle.smv_instances.specs.declared.names.Known.{Known}
use Rattle.smv_meaning.specs.Names.{Local, nothing, local_in, is_child, has_symbol}
use Rattle.name_maps.specs.declared.rows.NameRows.{NameRows}
use Rattle.name_maps.specs.declared.instance_rows.InstanceRows.{InstanceRows}
use Rattle.name_maps.specs.Rows.{row_named, row_in}
use Rattle.name_maps.specs.Maps.{named}
use Rattle.smv_instances.specs.View.{instance_plain, or_local}

-- the module at the place, where there is one
abbrev pub module_at : List Module → Option ℕ → Option PlainModule
module_at ms None = None
module_at ms (Some k) = option_map plain_module (slice_get ms k)

-- a name has the place of the first module of this name among the last ones
abbrev pub FindsPlaces : List Module → List Module → NameRows ℕ → Type 0
FindsPlaces ms rest m = (x : List ℕ) → module_at ms (row_named m x) ≡ module_named (map plain_module rest) x

-- ---- what a table keeps, beside its instances

-- what a name of the numbered instance is
abbrev pub known_at : InstanceRows Known → ℕ → List ℕ → Local
known_at m i x = or_local (row_in m i x) nothing

-- a module of few names, which are found with no rows
abbrev pub is_small : PlainModule → Bool
is_small m = nat_le m.tokens 40 && nat_le (length m.parameters) 8

-- what a name of an instance is by its rows, which one of a small module doesn't have
abbrev pub stored_in : ℕ → List ℕ → Option Instance → Local
stored_in i x None = nothing
stored_in i x (Some at) = if is_small at.«module» then nothing else local_in i x (Some at)

abbrev pub kept : List Instance → ℕ → List ℕ → Local
kept t i x = stored_in i x (slice_get t i)

-- what the names are of all instances that have rows
abbrev pub Knows : List PartOf → InstanceRows Known → Type 0
Knows ts m = (i : ℕ) (x : List ℕ) → known_at m i x ≡ kept (map instance_plain ts) i x

-- which instance a name is in an instance
abbrev pub Bears : List PartOf → InstanceRows ℕ → Type 0
Bears ts m = (i : ℕ) (x : List ℕ) → row_in m i x ≡ position (is_child i x) (map instance_plain ts)

-- the symbols
abbrev pub Holds : {X S : Type 0} → List PartOf → HashMap (Bor (List ℕ)) X S → Type 0
Holds ts m = (x : List ℕ) → is_some (named m x) ≡ has_symbol (map instance_plain ts) x

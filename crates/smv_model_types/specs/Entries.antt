-- What names are to the types, as far as the bodies to which they lead are typed.
use Rattle.std.specs.Prelude.{◌≡◌, ℕ, true, false, if◌then◌else◌, List, [], Option, Some, None, option_map, is_some, slice_index_or}
use Rattle.smv_text.specs.declared.tree.Path.{Path}
use Rattle.smv_text.specs.declared.tree.VarKind.{VarKind}
use Rattle.smv_text.specs.Tree.{PlainDomain}
use Rattle.smv_meaning.specs.Instances.{Instance}
use Rattle.smv_meaning.specs.Types.{symbol_type}
use Rattle.smv_meaning.specs.Names.{Local, body_of, variable_of, local, Found, variable_at, body_at, instance_at, symbol_of, look, found_in, steps_of}
use Rattle.smv_meaning.specs.Checks.{Named}
use Rattle.smv_meaning.specs.Naming.{unnamed, named_found}
use Rattle.smv_meaning.specs.Phases.{Body, body_same}
use Rattle.smv_meaning.specs.Settled.{types_in}
use Rattle.name_maps.specs.declared.instance_rows.InstanceRows.{InstanceRows}
use Rattle.name_maps.specs.Rows.{row_in}
use Rattle.smv_meaning.specs.Orders.{is_listed}
use Rattle.smv_types.specs.declared.names.Named.{Named as Kept}
use Rattle.smv_types.specs.View.{named_seen}

-- definitions and actuals by instance and name
abbrev pub Entries : Type 0
Entries = ℕ → List ℕ → Option Named

-- what is stored under a number, if there is one
abbrev pub stored_at : List (Option Kept) → Option ℕ → Option Named
stored_at stored None = None
stored_at stored (Some k) = option_map named_seen (slice_index_or stored k None)

-- they are stored by the numbers of their items
abbrev pub entries_seen : InstanceRows ℕ → List (Option Kept) → Entries
entries_seen numbers stored i x = stored_at stored (row_in numbers i x)

abbrev pub nameless : ℕ → Path → Named
nameless i path = unnamed

abbrev pub named_variable : VarKind → PlainDomain → Named
named_variable kind d = named_found true nameless (variable_at [] kind d)

abbrev pub named_instance : Named
named_instance = record { type = None; is_instance = true; reaches_input = false }

abbrev pub named_symbol : Named
named_symbol = record { type = Some symbol_type; is_instance = false; reaches_input = false }

abbrev pub or_unnamed : Option Named → Named
or_unnamed (Some n) = n
or_unnamed None = unnamed

-- what is found, by the entries
abbrev pub found_named : Entries → Found → Named
found_named entries (variable_at y kind d) = named_variable kind d
found_named entries (body_at j y k e) = or_unnamed (entries j y)
found_named entries (instance_at c) = named_instance
found_named entries (symbol_of y) = named_symbol
found_named entries m = unnamed

-- what a path is, by the entries
abbrev pub entries_names : List Instance → Entries → ℕ → Path → Named
entries_names t entries i path = found_named entries (found_in t i path)

-- the entries have what each path is
abbrev pub HasEach : List Instance → Entries → Type 0
HasEach t entries = (i : ℕ) (path : Path) → entries_names t entries i path ≡ types_in true t i path

-- what is stored of a variable is right
abbrev pub AreEnumerations : List Instance → InstanceRows Kept → Type 0
AreEnumerations t m = (i : ℕ) (x : List ℕ) (n : Kept) → row_in m i x ≡ Some n → (kind : VarKind) (d : PlainDomain) → local t i x ≡ variable_of kind d → named_seen n ≡ named_variable kind d

-- ---- how the entries are filled

-- what is put into the entries for a name
abbrev pub put_for : List Instance → Entries → Local → Option Named
put_for t entries (body_of j e) = Some (named_found true (entries_names t entries) (body_at 0 [] j e))
put_for t entries l = None

abbrev pub or_else : Option Named → Option Named → Option Named
or_else (Some n) other = Some n
or_else None other = other

-- the entries with what is put into them under a name
abbrev pub Becomes : Entries → Body → Option Named → Entries → Type 0
Becomes old k o new = (j : ℕ) (y : List ℕ) → new j y ≡ (if body_same k (j, y) then or_else o (old j y) else old j y)

-- the entries with what a definition or an actual is, where the name is one
abbrev pub IsPut : List Instance → Body → (old new : Entries) → Type 0
IsPut t k old new = Becomes old k (put_for t old (local t k.0 k.1)) new

-- what the entries have is right
abbrev pub Right : List Instance → Entries → Type 0
Right t entries = (i : ℕ) (x : List ℕ) (n : Named) → entries i x ≡ Some n → n ≡ named_found true (types_in true t) (look t (steps_of t) i x)

-- a definition or an actual that is found has an entry
abbrev pub IsEntered : Entries → Found → Type 0
IsEntered entries (body_at j y k e) = is_some (entries j y) ≡ true
IsEntered entries m = Unit {0}

-- the definitions and actuals to which those of the list lead have entries
abbrev pub Has : List Instance → Entries → List Body → Type 0
Has t entries ks = (k : Body) → is_listed ks k ≡ true → IsEntered entries (look t (steps_of t) k.0 k.1)

-- The kinds of failing tests, and which of failing tests is the first.
use Rattle.std.specs.Prelude.{◌≡◌, ◌⊎◌, ◌<◌, ◌≤◌, nat_le, Bool, true, false, ◌&&◌, List}
use Rattle.std.specs.List.{AllByRecursion}
use Rattle.text_core.specs.declared.place.Kind.{Kind}
use Rattle.text_core.specs.declared.place.Kind.TheVariants.{S, M, B, X, Y}
use Rattle.text_core.specs.declared.place.Refusal.{Refusal}
use Rattle.moxi_term_reading.specs.Failures.{IsIn, number_of}

-- M4 to M14, the kinds of the tests of scripts
abbrev pub is_script_kind : Kind → Bool
is_script_kind (S n) = false
is_script_kind (M n) = nat_le 4 n && nat_le n 14
is_script_kind (B n) = false
is_script_kind (X n) = false
is_script_kind (Y n) = false

abbrev pub HasScriptKind : Refusal → Type 0
HasScriptKind f = is_script_kind f.kind ≡ true

-- the number of a kind is a byte
abbrev pub HasByte : Refusal → Type 0
HasByte f = number_of f.kind < 256

-- at a lesser place, or at the same one with a number that isn't greater
abbrev pub ComesFirst : Refusal → Refusal → Type 0
ComesFirst r f = (r.place.offset < f.place.offset) ⊎ ((r.place.offset ≡ f.place.offset) × (number_of r.kind ≤ number_of f.kind))

-- one of these, and none of them comes before it
pub record IsFirst (r : Refusal) (fs : List Refusal) : Type 0 where
  pub among : IsIn r fs
  pub before : AllByRecursion (ComesFirst r) fs

-- What the names of an instance are to the types: closed by the number of nested definitions and actuals.
use Rattle.std.specs.Prelude.{ℕ, zero, suc, Bool, true, false, not, ◌&&◌, if◌then◌else◌, [], Option, Some, None}
use Rattle.smv_text.specs.declared.tree.VarKind.{VarKind}
use Rattle.smv_text.specs.Tree.{PlainDomain}
use Rattle.smv_meaning.specs.Types.{ExprType, symbol_type}
use Rattle.std.specs.List.{list_any}
use Rattle.smv_text.specs.declared.tree.Path.{Path}
use Rattle.smv_meaning.specs.Expressions.{paths_of}
use Rattle.smv_meaning.specs.Names.{Found, variable_at, body_at, instance_at, symbol_of, cyclic, none}
use Rattle.smv_meaning.specs.Meaning.{is_input}
use Rattle.smv_meaning.specs.Checks.{Position, Named, typing, variable_type}

-- the position of the body of a definition or an actual
abbrev pub in_body : Position
in_body = record { inputs = true; nexts = false; sets = false }

abbrev pub unnamed : Named
unnamed = record { type = None; is_instance = false; reaches_input = false }

-- where no label is given, inputs have no type
abbrev pub typed_variable : Bool → VarKind → PlainDomain → Option ExprType
typed_variable inputs kind d = if is_input kind && not inputs then None else variable_type d

abbrev pub named_found : Bool → (ℕ → Path → Named) → Found → Named
named_found inputs read (variable_at x kind d) =
    record { type = typed_variable inputs kind d; is_instance = false; reaches_input = is_input kind }
named_found inputs read (body_at i x j e) =
    record { type = (typing (read j) in_body e).type; is_instance = false; reaches_input = list_any (λ q. (read j q).reaches_input) (paths_of e []) }
named_found inputs read (instance_at i) = record { type = None; is_instance = true; reaches_input = false }
named_found inputs read (symbol_of x) = record { type = Some symbol_type; is_instance = false; reaches_input = false }
named_found inputs read cyclic = unnamed
named_found inputs read none = unnamed

-- the number bounds how deep definitions and actuals lead into one another
unfoldable pub naming : Bool → (ℕ → Path → Found) → ℕ → ℕ → Path → Named
naming inputs found zero i path = unnamed
naming inputs found (suc n) i path = named_found inputs (naming inputs found n) (found i path)

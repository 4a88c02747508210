-- The value of an expression in an instance, and the values that it permits (NuSMV 2.6 User Manual, 2.2 and 2.3).
use Rattle.std.specs.Prelude.{ℕ, zero, suc, Bool, true, false, if◌then◌else◌, IsTrue}
use Rattle.smv_text.specs.declared.tree.Path.{Path}
use Rattle.smv_text.specs.declared.tree.VarKind.{VarKind}
use Rattle.smv_text.specs.declared.tree.VarKind.TheVariants as OfVarKind
use Rattle.smv_text.specs.Tree.{Tree, PlainSource}
use Rattle.smv_meaning.specs.declared.value.Value.{Value}
use Rattle.smv_meaning.specs.declared.value.Value.TheVariants.{Symbol}
use Rattle.smv_meaning.specs.Values.{Valuation, no_value}
use Rattle.smv_meaning.specs.Expressions.{Denotation, denote}
use Rattle.smv_meaning.specs.Instances.{instances_of}
use Rattle.smv_meaning.specs.Names.{Found, variable_at, body_at, instance_at, symbol_of, cyclic, none, steps_of, meaning_of}

abbrev pub is_input : VarKind → Bool
is_input OfVarKind.Input = true
is_input kind = false

-- a variable has its value in the state, or as an input in the label; the body of a definition or an actual, which has no
-- `next`, is read in its own instance
abbrev pub value_found : (ℕ → Path → Value) → Valuation → Valuation → Found → Value
value_found read state label (variable_at x kind d) = if is_input kind then label x else state x
value_found read state label (body_at i x j e) = (denote (read j) (read j) e).value
value_found read state label (instance_at i) = no_value
value_found read state label (symbol_of x) = Symbol x
value_found read state label cyclic = no_value
value_found read state label none = no_value

-- the value of a path; the number bounds how deep definitions and actuals lead into one another
unfoldable pub reading : (ℕ → Path → Found) → ℕ → Valuation → Valuation → ℕ → Path → Value
reading found zero state label i path = no_value
reading found (suc n) state label i path = value_found (reading found n state label) state label (found i path)

-- an expression in an instance, with a state, a label and the following state
abbrev pub denoted : (ℕ → Path → Found) → ℕ → ℕ → Tree → Valuation → Valuation → Valuation → Denotation
denoted found n i e state label following =
    denote (reading found n state label i) (reading found n following label i) e

abbrev pub denotation_of : PlainSource → ℕ → Tree → Valuation → Valuation → Valuation → Denotation
denotation_of source i e state label following =
    denoted (meaning_of source) (steps_of (instances_of source)) i e state label following

abbrev pub value_of : PlainSource → ℕ → Tree → Valuation → Valuation → Valuation → Value
value_of source i e state label following = (denotation_of source i e state label following).value

-- the expression permits the value
abbrev pub Permits : PlainSource → ℕ → Tree → Valuation → Valuation → Valuation → Value → Type 0
Permits source i e state label following v = IsTrue ((denotation_of source i e state label following).permits v)

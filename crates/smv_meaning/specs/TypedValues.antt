-- What states and labels of the declared types give: each path, and each expression that has a type, a value of its type.
use Rattle.std.specs.Prelude.{ℕ, Bool, List, [], IsTrue}
use Rattle.smv_text.specs.declared.tree.Path.{Path}
use Rattle.smv_text.specs.Tree.{Tree, PlainDomain, PlainSource}
use Rattle.smv_meaning.specs.declared.value.Value.{Value}
use Rattle.smv_meaning.specs.Values.{Valuation, IsOfType}
use Rattle.smv_meaning.specs.Expressions.{paths_of}
use Rattle.smv_meaning.specs.Instances.{Instance, instances_of}
use Rattle.smv_meaning.specs.Names.{found_in}
use Rattle.smv_meaning.specs.Meaning.{Permits}
use Rattle.smv_meaning.specs.Checks.{Position, Named, typing, variable_type}
use Rattle.smv_meaning.specs.Runs.{state_fits, label_fits}
use Rattle.smv_meaning.specs.Typed.{Lies, Gives}
use Rattle.smv_meaning.specs.Settled.{values_in, types_in}
use Rattle.smv_meaning.specs.Orders.{SameOn}

-- a value of a declared type lies in the type that a variable of it has
abbrev pub DeclaredLie : Type 0
DeclaredLie = (d : PlainDomain) (v : Value) → IsOfType d v → Lies (variable_type d) v

-- each variable to which a path leads has a value of its type; inputs have where a label is given
abbrev pub StatesGive : Type 0
StatesGive = (t : List Instance) (inputs : Bool) (state label : Valuation) → IsTrue (state_fits t state) → (IsTrue inputs → IsTrue (label_fits t label)) → Gives inputs (found_in t) state label

-- the value of each path lies in its type, and an integer in its interval
abbrev pub PathsLie : Type 0
PathsLie = (t : List Instance) (inputs : Bool) (state label : Valuation) → IsTrue (state_fits t state) → (IsTrue inputs → IsTrue (label_fits t label))
    → (i : ℕ) (path : Path) → Lies (types_in inputs t i path).type (values_in t state label i path)

-- where names are, on the paths of an expression, what these are in an instance of the model, each value that the expression
-- permits there lies in the type that it has under these names, and an integer in its interval
abbrev pub ExpressionsLie : Type 0
ExpressionsLie = (source : PlainSource) (inputs : Bool) (names : Path → Named) (i : ℕ) (at : Position) (e : Tree) → SameOn names (types_in inputs (instances_of source) i) (paths_of e [])
    → (state label following : Valuation) → IsTrue (state_fits (instances_of source) state) → (IsTrue inputs → IsTrue (label_fits (instances_of source) label))
    → IsTrue (state_fits (instances_of source) following) → (v : Value) → Permits source i e state label following v → Lies (typing names at e).type v

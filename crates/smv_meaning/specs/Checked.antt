-- What the checks of paths, cycles and types give: each expression of each instance has a type and is evaluated safely.
use Rattle.std.specs.Prelude.{◌≡◌, ◌⊎◌, ℕ, ◌||◌, ◌&&◌, not, Bool, true, false, List, [], IsTrue}
use Rattle.std.specs.List.{list_all, list_any, flat_map}
use Rattle.text_core.specs.declared.place.Place.{Place}
use Rattle.smv_text.specs.declared.tree.Path.{Path}
use Rattle.smv_text.specs.Tree.{Tree, name, PlainSource}
use Rattle.smv_text.specs.Heights.{list_of}
use Rattle.smv_meaning.specs.Values.{Valuation}
use Rattle.smv_meaning.specs.Expressions.{paths_of}
use Rattle.smv_meaning.specs.Instances.{Instance, instances_of}
use Rattle.smv_meaning.specs.Names.{Found, instance_at, found_in, steps_of}
use Rattle.smv_meaning.specs.Meaning.{reading}
use Rattle.smv_meaning.specs.Checks.{Check, passes, Position, typing}
use Rattle.smv_meaning.specs.Phases.{over_instances, path_checks, type_checks, is_something, names_in, IsAccepted}
use Rattle.smv_meaning.specs.Safety.{Safe, SafePath}
use Rattle.smv_meaning.specs.Typed.{Gives}
use Rattle.smv_meaning.specs.Owed.{HasType}
use Rattle.smv_meaning.specs.Literals.{words_fit}
use Rattle.smv_meaning.specs.Parts.{expressions_in, OccursIn}
use Rattle.smv_meaning.specs.Settled.{cycle_checks_of, types_in}

-- the checks of phases 4 and 6
abbrev pub path_checks_of : List Instance → List Check
path_checks_of t = over_instances (path_checks (found_in t)) 0 t

abbrev pub type_checks_of : List Instance → List Check
type_checks_of t = over_instances (type_checks (names_in t)) 0 t

-- the checks of phases 4 to 6 hold: each path leads to something, nothing reaches itself, and types and positions fit
pub record IsChecked (t : List Instance) : Type 0 where
  pub paths : IsTrue (passes (path_checks_of t))
  pub cycles : IsTrue (passes (cycle_checks_of t))
  pub types : IsTrue (passes (type_checks_of t))

abbrev pub AcceptedIsChecked : Type 0
AcceptedIsChecked = (source : PlainSource) (needed : ℕ) → IsAccepted source needed → IsChecked (instances_of source)

-- each expression of an instance, its actuals among them, passes the test
abbrev pub instance_all : (Tree → Bool) → Instance → Bool
instance_all test at = list_all test (list_of at.actuals) && list_all test (flat_map expressions_in at.module.elements)

abbrev pub all_trees : (Tree → Bool) → List Instance → Bool
all_trees test t = list_all (instance_all test) t

abbrev pub names_instance : Found → Bool
names_instance (instance_at i) = true
names_instance m = false

-- what a path leads to has a type, but for an instance
abbrev pub NamesHaveTypes : Type 0
NamesHaveTypes = (t : List Instance) → IsChecked t → IsTrue (all_trees words_fit t) → (i : ℕ) (path : Path) → IsTrue (is_something (found_in t i path)) → names_instance (found_in t i path) ≡ false
    → HasType (types_in true t i path).type

-- an expression of an instance has a type in some position, but where it is the name of an instance
abbrev pub ExpressionsHaveTypes : Type 0
ExpressionsHaveTypes = (t : List Instance) → IsChecked t → IsTrue (all_trees words_fit t) → (i : ℕ) (e : Tree) → OccursIn t i e
    → ((at : Position) × HasType (typing (types_in true t i) at e).type) ⊎ ((p : Place) × (x : Path) × (e ≡ name p x) × (names_instance (found_in t i x) ≡ true))

-- the expression reaches an input from the numbered instance
abbrev pub reaches_an_input : List Instance → ℕ → Tree → Bool
reaches_an_input t i e = list_any (λ q. (types_in true t i q).reaches_input) (paths_of e [])

-- an expression of an instance is evaluated safely, where a label is given or the expression reaches no input
abbrev pub ExpressionsAreSafe : Type 0
ExpressionsAreSafe = (t : List Instance) → IsChecked t → IsTrue (all_trees words_fit t)
    → (inputs : Bool) (state label following : Valuation) → Gives inputs (found_in t) state label → Gives inputs (found_in t) following label
    → (i : ℕ) (e : Tree) → OccursIn t i e → IsTrue (inputs || not (reaches_an_input t i e))
    → Safe (SafePath (found_in t) (steps_of t) state label i) (SafePath (found_in t) (steps_of t) following label i)
    (reading (found_in t) (steps_of t) state label i) (reading (found_in t) (steps_of t) following label i) e

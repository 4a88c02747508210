-- What the caller of an evaluation owes.
use Rattle.std.specs.Prelude.{◌≡◌, ℕ, true, Bool, List, length, position, unwrap_or, bytes_eq, Option, Some, None, is_some}
use Rattle.smv_meaning.specs.Runs.{state_fits, label_fits}
use Rattle.std.specs.Borrow.{Bor}
use Rattle.smv_meaning.specs.declared.value.Given.{Given}
use Rattle.smv_meaning.specs.Instances.{Instance}
use Rattle.smv_text.specs.declared.tree.Path.{Path}
use Rattle.smv_text.specs.Tree.{Tree}
use Rattle.smv_meaning.specs.Values.{Valuation, given}
use Rattle.smv_meaning.specs.Names.{Found}
use Rattle.smv_meaning.specs.Meaning.{reading}
use Rattle.smv_meaning.specs.Types.{ExprType}
use Rattle.smv_meaning.specs.Checks.{Position, typing}
use Rattle.smv_meaning.specs.Naming.{naming}
use Rattle.smv_meaning.specs.Safety.{Safe, SafePath}
use Rattle.smv_meaning.specs.Typed.{Gives}

abbrev pub HasType : Option ExprType → Type 0
HasType t = is_some t ≡ true

-- an expression that has a type is evaluated safely
abbrev pub TypedIsSafe : Type 0
TypedIsSafe = (inputs : Bool) (found : ℕ → Path → Found) (state label following : Valuation) → Gives inputs found state label → Gives inputs found following label
    → (n i : ℕ) (at : Position) (e : Tree) → HasType (typing (naming inputs found n i) at e).type
    → Safe (SafePath found n state label i) (SafePath found n following label i) (reading found n state label i) (reading found n following label i) e

-- the number of the instance with this path, or the number of instances where there is none
abbrev pub instance_number : List Instance → List ℕ → ℕ
instance_number t x = unwrap_or (position (λ at. bytes_eq at.path x) t) (length t)

-- where no following state is given, `next` reads the state itself
abbrev pub following_or : Valuation → Option (Bor (List Given)) → Valuation
following_or state None = state
following_or state (Some following) = given following.now

-- ---- what is asked of the states

-- the state, the label or the following state, where it is given, gives each of its variables a value of its type
abbrev pub label_given : List Instance → Option (Bor (List Given)) → Bool
label_given t None = true
label_given t (Some label) = label_fits t (given label.now)

abbrev pub following_given : List Instance → Option (Bor (List Given)) → Bool
following_given t None = true
following_given t (Some following) = state_fits t (given following.now)

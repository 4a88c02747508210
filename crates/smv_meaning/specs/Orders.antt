-- What an order of definitions and actuals gives those who go along it, and on what types hang.
use Rattle.std.specs.Prelude.{◌≡◌, ℕ, true, Bool, List, [], ◌∷◌, ◌++◌, map, slice_index_or, Some, None, IsTrue}
use Rattle.std.specs.List.{list_all, list_any}
use Rattle.text_core.specs.declared.place.Refusal.{Refusal}
use Rattle.smv_text.specs.declared.tree.Path.{Path}
use Rattle.smv_text.specs.Tree.{Tree}
use Rattle.smv_meaning.specs.Expressions.{paths_of}
use Rattle.smv_meaning.specs.Instances.{Instance}
use Rattle.smv_meaning.specs.Names.{local}
use Rattle.smv_meaning.specs.Checks.{Position, Named, typing, first_failing}
use Rattle.smv_meaning.specs.Phases.{Body, body_same, refers}
use Rattle.smv_meaning.specs.Settled.{has_body}
use Rattle.smv_meaning.specs.Bodies.{bodies_of, IsBodyOrder}

-- the definition or the actual with this number
abbrev pub numbered : List Instance → ℕ → Body
numbered t n = slice_index_or (bodies_of t) n (0, [])

abbrev pub is_listed : List Body → Body → Bool
is_listed ks k = list_any (body_same k) ks

-- an order has each definition and each actual
abbrev pub OrderIsComplete : Type 0
OrderIsComplete = (t : List Instance) (order : List ℕ) → IsBodyOrder t order
    → (k : Body) → has_body (local t k.0 k.1) ≡ true → is_listed (map (numbered t) order) k ≡ true

-- those to which one refers are before it
abbrev pub ReferencesComeBefore : Type 0
ReferencesComeBefore = (t : List Instance) (before after : List ℕ) (n : ℕ) → IsBodyOrder t (before ++ n ∷ after)
    → IsTrue (list_all (is_listed (map (numbered t) before)) (refers t (numbered t n)))

-- ---- types

-- the paths are the same to the types
abbrev pub SameOn : (Path → Named) → (Path → Named) → List Path → Type 0
SameOn names others [] = Unit {0}
SameOn names others (q ∷ qs) = (names q ≡ others q) × SameOn names others qs

-- the checks of an expression and its type hang on its own paths alone
abbrev pub TypesHangOnPaths : Type 0
TypesHangOnPaths = (names others : Path → Named) (at : Position) (e : Tree) → SameOn names others (paths_of e []) → typing names at e ≡ typing others at e

-- an expression one of whose checks fails has no type
abbrev pub RefusedHaveNoType : Type 0
RefusedHaveNoType = (names : Path → Named) (at : Position) (e : Tree) (why : Refusal) → first_failing (typing names at e).checks ≡ Some why → (typing names at e).type ≡ None

-- Bodies that are typed before their place in the text, by the numbers of their items.
use Rattle.std.specs.Prelude.{◌≡◌, ℕ, ◌+◌, Bool, true, false, List, [], ◌∷◌, Option, None, Some, option_map, Ok, slice_index_or}
use Rattle.std.specs.List.{slice_get}
use Rattle.smv_text.specs.Tree.{Tree}
use Rattle.smv_text.specs.declared.tree.Path.{Path}
use Rattle.smv_meaning.specs.Instances.{Instance}
use Rattle.smv_meaning.specs.Names.{Local, body_of, local}
use Rattle.smv_meaning.specs.Checks.{Named, typing}
use Rattle.smv_meaning.specs.Expressions.{paths_of}
use Rattle.smv_meaning.specs.Orders.{SameOn}
use Rattle.smv_meaning.specs.Naming.{in_body}
use Rattle.smv_meaning.specs.Phases.{Body}
use Rattle.smv_meaning.specs.Settled.{types_in}
use Rattle.smv_items.specs.FlatItems.{Content, variable, definition, actual, Origin, Leaf, leaf_in, origins_of}
use Rattle.smv_flat.specs.declared.nodes.Typed.{Typed}
use Rattle.smv_flat.specs.FlatView.{EndsTyped}
use Rattle.smv_model_types.specs.Entries.{Entries, entries_names}

-- the instance in which a definition or an actual is read, and its expression
abbrev pub body_in : Content → Option (ℕ × Tree)
body_in (variable kind d) = None
body_in (definition j e) = Some (j, e)
body_in (actual j e) = Some (j, e)

abbrev pub body_or_none : Option Content → Option (ℕ × Tree)
body_or_none None = None
body_or_none (Some c) = body_in c

-- the content of the item with a number
abbrev pub content_at : List Origin → ℕ → Option Content
content_at ms k = option_map (λ m. m.content) (slice_get ms k)

-- the item with this number is such a body
abbrev pub IsBodyAt : List Instance → ℕ → ℕ → Tree → Type 0
IsBodyAt t k j e = body_or_none (content_at (origins_of t) k) ≡ Some (j, e)

-- these items stand in the list from a place on, but for their instances and names
abbrev pub Stand : List Origin → ℕ → List Origin → Type 0
Stand all k [] = Unit {0}
Stand all k (m ∷ ms) = (content_at all k ≡ Some m.content) × Stand all (k + 1) ms

-- ---- what is kept

-- the type and the flat form of a body
abbrev pub IsTypedIn : List Instance → ℕ → Tree → Typed → Type 0
IsTypedIn t j e x = EndsTyped (types_in true t j) (leaf_in t j) in_body false e (Ok x)

-- what is kept under a number is the body of its item
abbrev pub AreKept : List Instance → List (Option Typed) → Type 0
AreKept t kept = (k : ℕ) (x : Typed) → slice_index_or kept k None ≡ Some x → (j : ℕ) (e : Tree) → IsBodyAt t k j e → IsTypedIn t j e x

-- ---- bodies in the order of references

-- the body passes its checks and is typed, or has no type
abbrev pub IsTried : (Path → Named) → (Path → Leaf) → Tree → Option Typed → Type 0
IsTried names leaf e (Some x) = EndsTyped names leaf in_body false e (Ok x)
IsTried names leaf e None = None ≡ (typing names in_body e).type

-- the name is a definition, or an actual that is no path
abbrev pub has_own_body : Local → Bool
has_own_body (body_of j e) = true
has_own_body l = false

-- the entries have what the body of this instance and name refers to
abbrev pub HasReferred : List Instance → Entries → Body → Type 0
HasReferred t entries k = (j : ℕ) (e : Tree) → local t k.0 k.1 ≡ body_of j e → SameOn (entries_names t entries j) (types_in true t j) (paths_of e [])

-- what there is, is the body of this instance and name
abbrev pub IsBodyOf : List Instance → ℕ → List ℕ → Option Typed → Type 0
IsBodyOf t i x o = (y : Typed) → o ≡ Some y → (j : ℕ) (e : Tree) → local t i x ≡ body_of j e → IsTypedIn t j e y

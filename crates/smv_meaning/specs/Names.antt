-- What a path means in an instance (NuSMV 2.6 User Manual, 2.3).
use Rattle.std.specs.Prelude.{ℕ, zero, suc, ◌+◌, Bool, true, false, ◌&&◌, ◌==◌, if◌then◌else◌, List, [], ◌∷◌, length, Option, Some, None, slice_get, position, bytes_eq, sum_by, unwrap_or}
use Rattle.std.specs.List.{list_any}
use Rattle.smv_text.specs.declared.tree.Path.{Path}
use Rattle.smv_text.specs.declared.tree.Member.{Member}
use Rattle.smv_text.specs.declared.tree.Member.TheVariants as OfMember
use Rattle.smv_text.specs.declared.tree.VarKind.{VarKind}
use Rattle.smv_text.specs.declared.tree.Parameter.{Parameter}
use Rattle.smv_text.specs.Tree.{Tree, name, Trees, no_trees, tree, PlainDomain, members, instance, PlainItem, PlainDefinition, PlainElement, vars, defines, constants, PlainSource}
use Rattle.smv_meaning.specs.Instances.{Instance, dotted, is_one_of, instances_of}

-- what one name is in its own instance
pub data Local : Type 0 where
  alias : ℕ → Path → Local  -- a parameter whose actual is a path, read in the numbered instance
  body_of : ℕ → Tree → Local  -- a definition, or a parameter with any other actual, read in the numbered instance
  variable_of : VarKind → PlainDomain → Local
  inner : Local  -- an instance
  nothing : Local

abbrev pub of_actual : ℕ → Tree → Local
of_actual i (name p x) = alias i x
of_actual i e = body_of i e

abbrev pub of_domain : VarKind → PlainDomain → Local
of_domain kind (instance m actuals) = inner
of_domain kind d = variable_of kind d

abbrev pub among_items : VarKind → List PlainItem → List ℕ → Local → Local
among_items kind [] x other = other
among_items kind (item ∷ items) x other =
    if bytes_eq item.name x then of_domain kind item.domain else among_items kind items x other

abbrev pub among_definitions : ℕ → List PlainDefinition → List ℕ → Local → Local
among_definitions i [] x other = other
among_definitions i (d ∷ ds) x other = if bytes_eq d.name x then body_of i d.body else among_definitions i ds x other

abbrev pub among_elements : ℕ → List PlainElement → List ℕ → Local
among_elements i [] x = nothing
among_elements i (vars kind items ∷ es) x = among_items kind items x (among_elements i es x)
among_elements i (defines ds ∷ es) x = among_definitions i ds x (among_elements i es x)
among_elements i (e ∷ es) x = among_elements i es x

abbrev pub among_parameters : ℕ → List Parameter → Trees → List ℕ → Local → Local
among_parameters i [] es x other = other
among_parameters i (q ∷ qs) no_trees x other = other
among_parameters i (q ∷ qs) (tree e es) x other =
    if bytes_eq q.name x then of_actual i e else among_parameters i qs es x other

abbrev pub parent_of : Instance → ℕ
parent_of at = unwrap_or at.parent 0

-- parameters first, then variables, instances and definitions
abbrev pub local_in : ℕ → List ℕ → Option Instance → Local
local_in i x None = nothing
local_in i x (Some at) =
    among_parameters (parent_of at) at.module.parameters at.actuals x (among_elements i at.module.elements x)

abbrev pub local : List Instance → ℕ → List ℕ → Local
local t i x = local_in i x (slice_get t i)

-- what a path leads to
pub data Found : Type 0 where
  variable_at : List ℕ → VarKind → PlainDomain → Found  -- its dotted path, its kind and its type
  body_at : ℕ → List ℕ → ℕ → Tree → Found  -- a definition or an actual, by its instance and its name; the instance in which the body is read
  instance_at : ℕ → Found
  symbol_of : List ℕ → Found
  cyclic : Found
  none : Found

abbrev pub is_parent : ℕ → Option ℕ → Bool
is_parent i None = false
is_parent i (Some j) = j == i

abbrev pub is_child : ℕ → List ℕ → Instance → Bool
is_child i x at = is_parent i at.parent && bytes_eq at.name x

abbrev pub at_child : Option ℕ → Found
at_child None = none
at_child (Some c) = instance_at c

abbrev pub path_in : Option Instance → List ℕ
path_in None = []
path_in (Some at) = at.path

-- the dotted path of a name in an instance
abbrev pub dotted_at : List Instance → ℕ → List ℕ → List ℕ
dotted_at t i x = dotted (path_in (slice_get t i)) x

abbrev pub is_end : List (List ℕ) → Bool
is_end [] = true
is_end (x ∷ xs) = false

-- what is no instance ends its path
abbrev pub ended : Found → Bool → Found
ended (instance_at c) at_end = instance_at c
ended cyclic at_end = cyclic
ended m at_end = if at_end then m else none

-- the path goes on in the instance that was found
abbrev pub onward : Found → Bool → (ℕ → Found) → Found
onward (instance_at c) at_end go = go c
onward m at_end go = ended m at_end

abbrev pub walk : (ℕ → List ℕ → Found) → ℕ → List (List ℕ) → Found
walk look i [] = instance_at i
walk look i (x ∷ rest) = onward (look i x) (is_end rest) (λ c. walk look c rest)

abbrev pub is_symbol : List ℕ → Member → Bool
is_symbol x (OfMember.Symbol s) = bytes_eq s x
is_symbol x (OfMember.Integer z) = false

abbrev pub domain_has : List ℕ → PlainDomain → Bool
domain_has x (members ms) = list_any (is_symbol x) ms
domain_has x d = false

abbrev pub item_has : List ℕ → PlainItem → Bool
item_has x item = domain_has x item.domain

abbrev pub element_has : List ℕ → PlainElement → Bool
element_has x (vars kind items) = list_any (item_has x) items
element_has x (constants names) = is_one_of names x
element_has x e = false

abbrev pub instance_has : List ℕ → Instance → Bool
instance_has x at = list_any (element_has x) at.module.elements

-- an enumeration or CONSTANTS of an instantiated module has the name
abbrev pub has_symbol : List Instance → List ℕ → Bool
has_symbol t x = list_any (instance_has x) t

abbrev pub symbol_or_none : List Instance → List ℕ → Found
symbol_or_none t x = if has_symbol t x then symbol_of x else none

-- a single name that is nothing in its instance may be a symbol
abbrev pub single : List Instance → (ℕ → List ℕ → Found) → ℕ → List ℕ → Local → Found
single t look i x nothing = symbol_or_none t x
single t look i x known = walk look i (x ∷ [])

abbrev pub through : List Instance → (ℕ → List ℕ → Found) → ℕ → List (List ℕ) → Found
through t look i (x ∷ []) = single t look i x (local t i x)
through t look i xs = walk look i xs

-- a path that begins with `self`, or with a name
abbrev pub resolved : List Instance → (ℕ → List ℕ → Found) → ℕ → Path → Found
resolved t look i path = if path.from_self then walk look i path.names else through t look i path.names

abbrev pub landed : List Instance → (ℕ → List ℕ → Found) → ℕ → List ℕ → Local → Found
landed t look i x (alias j path) = resolved t look j path
landed t look i x (body_of j e) = body_at i x j e
landed t look i x (variable_of kind d) = variable_at (dotted_at t i x) kind d
landed t look i x inner = at_child (position (is_child i x) t)
landed t look i x nothing = none

-- the number bounds how deep paths as actuals lead into one another
unfoldable pub look : List Instance → ℕ → ℕ → List ℕ → Found
look t zero i x = cyclic
look t (suc n) i x = landed t (look t n) i x (local t i x)

abbrev pub definitions_in : PlainElement → ℕ
definitions_in (defines ds) = length ds
definitions_in e = 0

abbrev pub trees_in : Trees → ℕ
trees_in no_trees = 0
trees_in (tree e es) = trees_in es + 1

-- the definitions and the actuals of an instance
abbrev pub bodies_in : Instance → ℕ
bodies_in at = sum_by definitions_in at.module.elements + trees_in at.actuals

-- definitions and actuals that lead into one another without a cycle are no more than there are of them
abbrev pub steps_of : List Instance → ℕ
steps_of t = sum_by bodies_in t + 1

abbrev pub found_in : List Instance → ℕ → Path → Found
found_in t i path = resolved t (look t (steps_of t)) i path

-- the meaning of a path in an instance of a model
abbrev pub meaning_of : PlainSource → ℕ → Path → Found
meaning_of source = found_in (instances_of source)

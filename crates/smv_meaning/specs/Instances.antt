-- The instances of a model in preorder (NuSMV 2.6 User Manual, 2.3).
use Rattle.std.specs.Prelude.{ℕ, zero, suc, Bool, if◌then◌else◌, List, [], ◌∷◌, ◌++◌, length, codes, Option, Some, None, bytes_eq, sum_by, slice_get}
use Rattle.std.specs.List.{list_any}
use Rattle.smv_text.specs.Tree.{Trees, no_trees, PlainDomain, instance, PlainItem, PlainElement, vars, PlainModule, PlainSource}

-- an instance; its actuals are read in its parent, which is named by its place in the list of instances
pub record Instance : Type 0 where
  pub parent : Option ℕ  -- none for main
  pub name : List ℕ  -- its name in its parent
  pub path : List ℕ  -- its dotted path from main, empty for main
  pub «module» : PlainModule
  pub actuals : Trees

-- a name in the instance with this path
abbrev pub dotted : List ℕ → List ℕ → List ℕ
dotted [] x = x
dotted (c ∷ path) x = c ∷ path ++ codes "." ++ x

abbrev pub is_one_of : List (List ℕ) → List ℕ → Bool
is_one_of xs x = list_any (λ y. bytes_eq y x) xs

abbrev pub module_named : List PlainModule → List ℕ → Option PlainModule
module_named [] x = None
module_named (m ∷ ms) x = if bytes_eq m.name x then Some m else module_named ms x

-- the instance of a module inside an instance, where there is such a module
abbrev pub placed : ℕ → List ℕ → List ℕ → Trees → Option PlainModule → Option Instance
placed i path x actuals None = None
placed i path x actuals (Some m) =
    Some (record { parent = Some i; name = x; path = dotted path x; «module» = m; actuals = actuals })

abbrev pub child_in : List PlainModule → ℕ → List ℕ → List ℕ → PlainDomain → Option Instance
child_in ms i path x (instance m actuals) = placed i path x actuals (module_named ms m)
child_in ms i path x d = None

-- the instance that a declaration in the instance i, which has this path, makes
abbrev pub child_of : List PlainModule → ℕ → List ℕ → PlainItem → Option Instance
child_of ms i path item = child_in ms i path item.name item.domain

abbrev pub with_child : (Instance → List Instance → List Instance) → Option Instance → List Instance → List Instance
with_child g None t = t
with_child g (Some child) t = g child t

abbrev pub grow_items : (Instance → List Instance → List Instance) → List PlainModule → ℕ → List ℕ → List PlainItem → List Instance → List Instance
grow_items g ms i path [] t = t
grow_items g ms i path (item ∷ items) t = grow_items g ms i path items (with_child g (child_of ms i path item) t)

abbrev pub grow_elements : (Instance → List Instance → List Instance) → List PlainModule → ℕ → List ℕ → List PlainElement → List Instance → List Instance
grow_elements g ms i path [] t = t
grow_elements g ms i path (vars kind items ∷ es) t = grow_elements g ms i path es (grow_items g ms i path items t)
grow_elements g ms i path (e ∷ es) t = grow_elements g ms i path es t

-- the list with the instance and then all below it added; modules nest at most as deep as the number tells
unfoldable pub grow : ℕ → List PlainModule → Instance → List Instance → List Instance
grow zero ms at t = t
grow (suc n) ms at t = grow_elements (grow n ms) ms (length t) at.path at.module.elements (t ++ at ∷ [])

abbrev pub main_name : List ℕ
main_name = codes "main"

abbrev pub main_instance : PlainModule → Instance
main_instance m = record { parent = None; name = []; path = []; «module» = m; actuals = no_trees }

abbrev pub grown_from : List PlainModule → Option PlainModule → List Instance
grown_from ms None = []
grown_from ms (Some m) = grow (length ms) ms (main_instance m) []

-- main and all below it: where no module stands inside itself, modules nest at most as deep as there are modules
abbrev pub instances_of : PlainSource → List Instance
instances_of source = grown_from source.modules (module_named source.modules main_name)

abbrev pub module_and_above : (Option ℕ → List (List ℕ)) → Option Instance → List (List ℕ)
module_and_above above None = []
module_and_above above (Some at) = at.module.name ∷ above at.parent

-- the names of the modules of an instance and of all above it
abbrev pub modules_above : ℕ → List Instance → Option ℕ → List (List ℕ)
modules_above zero t i = []
modules_above (suc n) t None = []
modules_above (suc n) t (Some i) = module_and_above (modules_above n t) (slice_get t i)

-- the number of tokens of the modules' bodies, summed over the instances
abbrev pub weight_of : PlainSource → ℕ
weight_of source = sum_by (λ at. at.module.tokens) (instances_of source)

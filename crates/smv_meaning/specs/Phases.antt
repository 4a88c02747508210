-- The checks of a model in their order, phase by phase (the order and the kinds are this translator's own).
use Rattle.std.specs.Prelude.{ℕ, zero, suc, ◌+◌, Bool, true, false, not, ◌&&◌, ◌||◌, ◌==◌, nat_lt, nat_le, if◌then◌else◌, List, [], ◌∷◌, ◌++◌, map, length, Option, Some, None, is_some, slice_get, flat_map, IsTrue, bytes_eq}
use Rattle.std.specs.List.{list_any}
use Rattle.text_core.specs.declared.place.Place.{Place}
use Rattle.text_core.specs.declared.place.Refusal.{Refusal}
use Rattle.smv_text.specs.declared.tree.Path.{Path}
use Rattle.smv_text.specs.declared.tree.Parameter.{Parameter}
use Rattle.smv_text.specs.declared.tree.VarKind.TheVariants as OfVarKind
use Rattle.smv_text.specs.declared.tree.When.{When}
use Rattle.smv_text.specs.declared.tree.When.TheVariants.{Always, First, Following}
use Rattle.smv_text.specs.Tree.{Tree, truth, number, literal, name, prefix, chain, choice, cases, select, call, next, set, range, Trees, no_trees, tree, PlainDomain, instance, PlainItem, PlainAssignment, PlainElement, vars, defines, constants, assigns, init, trans, invar, spec, PlainModule, PlainSource, PlainDefinition}
use Rattle.smv_meaning.specs.Expressions.{paths_of, tree_paths}
use Rattle.smv_meaning.specs.Instances.{Instance, dotted, is_one_of, module_named, modules_above, main_name, instances_of, weight_of}
use Rattle.smv_meaning.specs.Names.{Local, alias, body_of, local, parent_of, trees_in, Found, variable_at, instance_at, none, look, found_in, steps_of, has_symbol}
use Rattle.smv_meaning.specs.Types.{is_truth_type, type_same}
use Rattle.smv_meaning.specs.Checks.{Check, check, passes, first_failing, Position, Named, typing, on_type, on_types, domain_checks}
use Rattle.smv_meaning.specs.Naming.{in_body, naming}

-- ---- phase 1: the modules' names, and main

abbrev pub name_checks : List (List ℕ) → List PlainModule → List Check
name_checks seen [] = []
name_checks seen (m ∷ ms) = check 9 m.place (not (is_one_of seen m.name)) ∷ name_checks (m.name ∷ seen) ms

abbrev pub main_check : Place → Option PlainModule → Check
main_check end None = check 8 end false
main_check end (Some m) = check 8 m.place (length m.parameters == 0)

abbrev pub module_checks : PlainSource → List Check
module_checks source =
    name_checks [] source.modules ++ main_check source.end (module_named source.modules main_name) ∷ []

-- ---- phase 2: what the instances declare

-- a declared name: a parameter, a variable or an instance, or a definition
pub record Declared : Type 0 where
  pub name : List ℕ
  pub place : Place
  pub item : Option PlainItem

abbrev pub element_declares : PlainElement → List Declared
element_declares (vars kind items) = map (λ i. record { name = i.name; place = i.place; item = Some i }) items
element_declares (defines ds) = map (λ d. record { name = d.name; place = d.place; item = None }) ds
element_declares e = []

-- parameters first, then in the order of the text
abbrev pub declared_in : PlainModule → List Declared
declared_in m =
    map (λ q. record { name = q.name; place = q.place; item = None }) m.parameters ++ flat_map element_declares m.elements

abbrev pub domain_declares_instance : PlainDomain → Bool
domain_declares_instance (instance m actuals) = true
domain_declares_instance d = false

abbrev pub declares_instance : Option PlainItem → Bool
declares_instance None = false
declares_instance (Some i) = domain_declares_instance i.domain

-- the most bytes of a dotted path, instances, and tokens of instances
abbrev pub longest_path : ℕ
longest_path = 1000

abbrev pub most_instances : ℕ
most_instances = 4096

abbrev pub most_tokens : ℕ
most_tokens = 200000

abbrev pub takes : Option PlainModule → Trees → Bool
takes None actuals = true
takes (Some m) actuals = length m.parameters == trees_in actuals

-- an instance is one of a module that is there, isn't inside itself, and takes that many actuals
abbrev pub instance_checks : List PlainModule → List (List ℕ) → Place → PlainDomain → List Check
instance_checks ms above place (instance m actuals) =
    check 11 place (is_some (module_named ms m)) ∷ check 12 place (not (is_one_of above m)) ∷ check 13 place (takes (module_named ms m) actuals) ∷ []
instance_checks ms above place d = []

abbrev pub item_checks : List PlainModule → List (List ℕ) → Option PlainItem → List Check
item_checks ms above None = []
item_checks ms above (Some i) = instance_checks ms above i.domain_place i.domain

-- with one instance more, where the declaration makes one
abbrev pub counted : ℕ → Declared → ℕ
counted met d = if declares_instance d.item then met + 1 else met

-- given the modules above, the instance's path, the names that were declared earlier in the module, and how many instances
-- were met so far, main among them
abbrev pub declared_checks : List PlainModule → List (List ℕ) → List ℕ → List (List ℕ) → ℕ → List Declared → List Check
declared_checks ms above path seen met [] = []
declared_checks ms above path seen met (d ∷ ds) =
    check 10 d.place (not (is_one_of seen d.name))
    ∷ item_checks ms above d.item
    ++ check 28 d.place (nat_le (length (dotted path d.name)) longest_path && (not (declares_instance d.item) || nat_le (met + 1) most_instances))
    ∷ declared_checks ms above path (d.name ∷ seen) (counted met d) ds

abbrev pub counted_all : ℕ → List Declared → ℕ
counted_all met [] = met
counted_all met (d ∷ ds) = counted_all (counted met d) ds

-- over the instances from number i on
abbrev pub declaration_checks : List PlainModule → List Instance → ℕ → ℕ → List Instance → List Check
declaration_checks ms all i met [] = []
declaration_checks ms all i met (at ∷ t) =
    declared_checks ms (modules_above (length all) all (Some i)) at.path [] met (declared_in at.module)
    ++ declaration_checks ms all (i + 1) (counted_all met (declared_in at.module)) t

-- ---- phase 3: the weight, and names of main that are symbols

abbrev pub start_place : Place
start_place = record { line = 1; column = 1; offset = 0 }

abbrev pub symbol_checks : List Instance → Option Instance → List Check
symbol_checks t None = []
symbol_checks t (Some main) = map (λ d. check 10 d.place (not (has_symbol t d.name))) (declared_in main.module)

abbrev pub size_checks : PlainSource → List Check
size_checks source =
    check 28 start_place (nat_le (weight_of source) most_tokens) ∷ symbol_checks (instances_of source) (slice_get (instances_of source) 0)

-- ---- phases 4 to 7 go over the instances; in each the actuals come first, then the elements in the order of the text

abbrev pub over_instances {ℓ} : {X : Type ℓ} → (ℕ → Instance → List X) → ℕ → List Instance → List X
over_instances f i [] = []
over_instances f i (at ∷ t) = f i at ++ over_instances f (i + 1) t

-- ---- phase 4: each path names something

abbrev pub element_paths : PlainElement → List Path
element_paths (vars kind items) = []
element_paths (defines ds) = flat_map (λ d. paths_of d.body []) ds
element_paths (constants names) = []
element_paths (assigns xs) = flat_map (λ a. a.target ∷ paths_of a.body []) xs
element_paths (init e) = paths_of e []
element_paths (trans e) = paths_of e []
element_paths (invar e) = paths_of e []
element_paths (spec label e) = paths_of e []

abbrev pub is_something : Found → Bool
is_something none = false
is_something m = true

abbrev pub path_check : (ℕ → Path → Found) → ℕ → Path → Check
path_check found i path = check 14 path.place (is_something (found i path))

abbrev pub path_checks : (ℕ → Path → Found) → ℕ → Instance → List Check
path_checks found i at =
    map (path_check found (parent_of at)) (tree_paths at.actuals []) ++ map (path_check found i) (flat_map element_paths at.module.elements)

-- ---- phase 5: no definition and no actual reaches itself

-- a definition or an actual: its instance and its name
abbrev pub Body : Type 0
Body = ℕ × List ℕ

abbrev pub body_same : Body → Body → Bool
body_same k m = k.0 == m.0 && bytes_eq k.1 m.1

abbrev pub body_here : ℕ → List ℕ → Local → List Body
body_here i x (alias j path) = (i, x) ∷ []
body_here i x (body_of j e) = (i, x) ∷ []
body_here i x l = []

abbrev pub from_instance {ℓ} : {X : Type ℓ} → Found → (ℕ → List X) → List X
from_instance (instance_at c) go = go c
from_instance m go = []

-- the definitions and actuals that a path goes through
abbrev pub path_bodies : List Instance → (ℕ → List ℕ → Found) → ℕ → List (List ℕ) → List Body
path_bodies t look i [] = []
path_bodies t look i (x ∷ rest) = body_here i x (local t i x) ++ from_instance (look i x) (λ c. path_bodies t look c rest)

abbrev pub referred : List Instance → (ℕ → List ℕ → Found) → Local → List Body
referred t look (alias j path) = path_bodies t look j path.names
referred t look (body_of j e) = flat_map (λ q. path_bodies t look j q.names) (paths_of e [])
referred t look l = []

-- the definitions and actuals to which a definition or an actual refers
abbrev pub refers : List Instance → Body → List Body
refers t k = referred t (look t (steps_of t)) (local t k.0 k.1)

-- one leads to the other in one or more references, at most as many as the number tells
unfoldable pub reaches : (Body → List Body) → ℕ → Body → Body → Bool
reaches refers zero k m = false
reaches refers (suc n) k m = list_any (λ r. body_same r m || reaches refers n r m) (refers k)

abbrev pub cycle_check : List Instance → ℕ → List ℕ → Place → Check
cycle_check t i x place = check 15 place (not (reaches (refers t) (steps_of t) (i, x) (i, x)))

abbrev pub place_of : Tree → Place
place_of (truth p b) = p
place_of (number p n) = p
place_of (literal p w) = p
place_of (name p x) = p
place_of (prefix p sign n e) = p
place_of (chain p e ls) = p
place_of (choice p bs e) = p
place_of (cases p bs) = p
place_of (select p e high low) = p
place_of (call p f es) = p
place_of (next p e) = p
place_of (set p es) = p
place_of (range p low high) = p

abbrev pub actual_cycles : List Instance → ℕ → List Parameter → Trees → List Check
actual_cycles t i [] es = []
actual_cycles t i (q ∷ qs) no_trees = []
actual_cycles t i (q ∷ qs) (tree e es) = cycle_check t i q.name (place_of e) ∷ actual_cycles t i qs es

abbrev pub element_cycles : List Instance → ℕ → PlainElement → List Check
element_cycles t i (defines ds) = map (λ d. cycle_check t i d.name d.place) ds
element_cycles t i e = []

abbrev pub cycle_checks : List Instance → ℕ → Instance → List Check
cycle_checks t i at = actual_cycles t i at.module.parameters at.actuals ++ flat_map (element_cycles t i) at.module.elements

-- ---- phase 6: types and positions

-- in INIT, INVAR and INVARSPEC; in TRANS; behind `:=`
abbrev pub in_state : Position
in_state = record { inputs = false; nexts = false; sets = false }

abbrev pub in_step : Position
in_step = record { inputs = true; nexts = true; sets = false }

abbrev pub in_assignment : When → Position
in_assignment Always = record { inputs = false; nexts = false; sets = true }
in_assignment First = record { inputs = false; nexts = false; sets = true }
in_assignment Following = record { inputs = true; nexts = true; sets = true }

-- an actual that is a path may name anything
abbrev pub actual_typing : (Path → Named) → Tree → List Check
actual_typing names (name p x) = []
actual_typing names e = (typing names in_body e).checks

abbrev pub actuals_typing : (Path → Named) → Trees → List Check
actuals_typing names no_trees = []
actuals_typing names (tree e es) = actual_typing names e ++ actuals_typing names es

abbrev pub formula_typing : (Path → Named) → Position → Tree → List Check
formula_typing names at e =
    (typing names at e).checks ++ check 16 (place_of e) (on_type (typing names at e).type is_truth_type) ∷ []

-- an assigned value fits its target whatever their intervals are
abbrev pub assigned_typing : (Path → Named) → PlainAssignment → List Check
assigned_typing names a =
    (typing names (in_assignment a.when) a.body).checks
    ++ check 16 (place_of a.body) (on_types (names a.target).type (typing names (in_assignment a.when) a.body).type type_same)
    ∷ []

abbrev pub element_typing : (Path → Named) → PlainElement → List Check
element_typing names (vars kind items) = flat_map (λ i. domain_checks i.domain_place i.domain) items
element_typing names (defines ds) = flat_map (λ d. (typing names in_body d.body).checks) ds
element_typing names (constants cs) = []
element_typing names (assigns xs) = flat_map (assigned_typing names) xs
element_typing names (init e) = formula_typing names in_state e
element_typing names (trans e) = formula_typing names in_step e
element_typing names (invar e) = formula_typing names in_state e
element_typing names (spec label e) = formula_typing names in_state e

abbrev pub type_checks : (ℕ → Path → Named) → ℕ → Instance → List Check
type_checks names i at =
    actuals_typing (names (parent_of at)) at.actuals ++ flat_map (element_typing (names i)) at.module.elements

-- ---- phase 7: what is assigned

pub record Assigned : Type 0 where
  pub when : When
  pub target : Found
  pub place : Place

abbrev pub element_assigns : (ℕ → Path → Found) → ℕ → PlainElement → List Assigned
element_assigns found i (assigns xs) =
    map (λ a. record { when = a.when; target = found i a.target; place = a.target.place }) xs
element_assigns found i e = []

abbrev pub when_same : When → When → Bool
when_same Always Always = true
when_same First First = true
when_same Following Following = true
when_same v w = false

-- a state variable is assigned at any time, a frozen one in the first state alone
abbrev pub is_assignable : When → Found → Bool
is_assignable when (variable_at x OfVarKind.State d) = true
is_assignable when (variable_at x OfVarKind.Frozen d) = when_same when First
is_assignable when m = false

abbrev pub variable_same : Found → Found → Bool
variable_same (variable_at x k d) (variable_at y l e) = bytes_eq x y
variable_same m n = false

-- two assignments of one kind, or `x :=` with another
abbrev pub clashes : Assigned → Assigned → Bool
clashes a b =
    variable_same a.target b.target && (when_same a.when b.when || when_same a.when Always || when_same b.when Always)

abbrev pub assigned_checks : List Assigned → List Assigned → List Check
assigned_checks seen [] = []
assigned_checks seen (a ∷ more) =
    check 22 a.place (is_assignable a.when a.target) ∷ check 21 a.place (not (list_any (clashes a) seen)) ∷ assigned_checks (a ∷ seen) more

abbrev pub assignment_checks : (ℕ → Path → Found) → List Instance → List Check
assignment_checks found t =
    assigned_checks [] (over_instances (λ i at. flat_map (element_assigns found i) at.module.elements) 0 t)

-- ---- phase 8: the invariants

abbrev pub element_invariants : ℕ → PlainElement → List (ℕ × Tree)
element_invariants i (spec label e) = (i, e) ∷ []
element_invariants i e = []

-- the invariants with their instances, in preorder and then in the order of the text
abbrev pub invariants_in : List Instance → List (ℕ × Tree)
invariants_in t = over_instances (λ i at. flat_map (element_invariants i) at.module.elements) 0 t

-- ---- all phases

abbrev pub names_in : List Instance → ℕ → Path → Named
names_in t i path = naming true (found_in t) (steps_of t) i path

-- the phases over the instances, from 4 on
abbrev pub later_checks : List Instance → List Check
later_checks t =
    over_instances (path_checks (found_in t)) 0 t
    ++ over_instances (cycle_checks t) 0 t
    ++ over_instances (type_checks (names_in t)) 0 t
    ++ assignment_checks (found_in t) t

-- the checks of a model of which the invariant with this number is wanted
abbrev pub checks_of : PlainSource → ℕ → List Check
checks_of source needed =
    module_checks source
    ++ declaration_checks source.modules (instances_of source) 0 1 (instances_of source)
    ++ size_checks source
    ++ later_checks (instances_of source)
    ++ check 27 source.end (nat_lt needed (length (invariants_in (instances_of source)))) ∷ []

abbrev pub IsAccepted : PlainSource → ℕ → Type 0
IsAccepted source needed = IsTrue (passes (checks_of source needed))

abbrev pub first_refusal : PlainSource → ℕ → Option Refusal
first_refusal source needed = first_failing (checks_of source needed)

abbrev pub parameter_declared : Parameter → Declared
parameter_declared q = record { name = q.name; place = q.place; item = None }

abbrev pub item_declared : PlainItem → Declared
item_declared i = record { name = i.name; place = i.place; item = Some i }

abbrev pub definition_declared : PlainDefinition → Declared
definition_declared d = record { name = d.name; place = d.place; item = None }

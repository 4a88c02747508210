-- The definitions and actuals of a model, numbered in the order of their checks, and the graph of their references.
use Rattle.std.specs.Prelude.{◌≡◌, ℕ, ◌<◌, false, List, [], ◌∷◌, ◌++◌, map, length, position, flat_map, Option, Some, None, unwrap_or, slice_get}
use Rattle.text_core.specs.declared.place.Place.{Place}
use Rattle.text_core.specs.declared.place.Refusal.{Refusal}
use Rattle.digraph.specs.Graph.{NodeLists, IsSorted}
use Rattle.smv_text.specs.declared.tree.Parameter.{Parameter}
use Rattle.smv_text.specs.Tree.{Trees, no_trees, tree, PlainDefinition, PlainElement, defines}
use Rattle.smv_meaning.specs.Instances.{Instance}
use Rattle.smv_text.specs.declared.tree.Path.{Path}
use Rattle.smv_meaning.specs.Names.{Found, instance_at, look, steps_of}
use Rattle.smv_meaning.specs.Checks.{check, first_failing}
use Rattle.smv_meaning.specs.Phases.{Body, body_same, refers, path_bodies, place_of, over_instances}
use Rattle.smv_meaning.specs.Settled.{Acyclic, cycle_checks_of}

-- a definition or an actual, and where it is
pub record Placed : Type 0 where
  pub body : Body
  pub place : Place

abbrev pub actual_bodies : ℕ → List Parameter → Trees → List Placed
actual_bodies i [] es = []
actual_bodies i (q ∷ qs) no_trees = []
actual_bodies i (q ∷ qs) (tree e es) = record { body = (i, q.name); place = place_of e } ∷ actual_bodies i qs es

abbrev pub placed_definition : ℕ → PlainDefinition → Placed
placed_definition i d = record { body = (i, d.name); place = d.place }

abbrev pub element_bodies : ℕ → PlainElement → List Placed
element_bodies i (defines ds) = map (placed_definition i) ds
element_bodies i e = []

abbrev pub bodies_here : ℕ → Instance → List Placed
bodies_here i at = actual_bodies i at.module.parameters at.actuals ++ flat_map (element_bodies i) at.module.elements

-- over the instances in preorder; in each the actuals come first, then the definitions in the order of the text
abbrev pub placed_bodies : List Instance → List Placed
placed_bodies t = over_instances bodies_here 0 t

abbrev pub bodies_of : List Instance → List Body
bodies_of t = map (λ f. f.body) (placed_bodies t)

-- the number of a definition or an actual, by its instance and its name
abbrev pub number_in : List Body → Body → Option ℕ
number_in ks k = position (λ m. body_same m k) ks

abbrev pub number_or : List Body → Body → ℕ
number_or ks k = unwrap_or (number_in ks k) 0

abbrev pub instance_within : Found → Option ℕ
instance_within (instance_at c) = Some c
instance_within m = None

-- the numbers of those that a path goes through
abbrev pub path_numbers : List Instance → ℕ → List (List ℕ) → List ℕ
path_numbers t i names = map (number_or (bodies_of t)) (path_bodies t (look t (steps_of t)) i names)

abbrev pub all_path_numbers : List Instance → ℕ → List Path → List ℕ
all_path_numbers t i [] = []
all_path_numbers t i (q ∷ qs) = path_numbers t i q.names ++ all_path_numbers t i qs

abbrev pub references_of : List Instance → Body → List ℕ
references_of t k = map (number_or (bodies_of t)) (refers t k)

-- each leads to those to which it refers
abbrev pub reference_graph : List Instance → NodeLists
reference_graph t = map (references_of t) (bodies_of t)

abbrev pub refusal_of : Option Placed → Option Refusal
refusal_of None = None
refusal_of (Some f) = Some (check 15 f.place false).refusal

-- an order in which each is after those to which it refers
pub record IsBodyOrder (t : List Instance) (order : List ℕ) : Type 0 where
  pub sorted : IsSorted (reference_graph t) order
  pub acyclic : Acyclic t
  pub passing : first_failing (cycle_checks_of t) ≡ None

-- the first that reaches itself
pub record IsFirstCycle (t : List Instance) (k : ℕ) : Type 0 where
  pub there : k < length (bodies_of t)
  pub failing : first_failing (cycle_checks_of t) ≡ refusal_of (slice_get (placed_bodies t) k)

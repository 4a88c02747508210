-- What is counted of a system, given what is counted of the systems of its subsystems.
use Rattle.std.specs.Prelude.{ℕ, ◌+◌, ◌<◌, max, List, [], ◌∷◌, map, length}
use Rattle.std.specs.List.{AllByRecursion}
use Rattle.digraph.specs.Graph.{NodeLists}
use Rattle.moxi_scripts.specs.declared.script.Subsystem.{Subsystem}
use Rattle.moxi_scripts.specs.Script.{PlainSystem, system_at}
use Rattle.moxi_flat.specs.Terms.{term_height, term_size}
use Rattle.moxi_flat.specs.Systems.{instance_height, instance_size, nesting_upto}
use Rattle.moxi_flat.specs.Instantiating.{IsEnough}
use Rattle.moxi_instantiate.specs.declared.systems.Measure.{Measure}
use Rattle.moxi_instantiate.specs.declared.systems.Measure.TheVariants.{Size, Height, Nesting}

-- the sum and the greatest of what is counted of the subsystems' systems
abbrev pub inner_sum : (ℕ → ℕ) → List Subsystem → ℕ
inner_sum inner [] = 0
inner_sum inner (b ∷ bs) = inner b.system + inner_sum inner bs

abbrev pub inner_greatest : (ℕ → ℕ) → List Subsystem → ℕ
inner_greatest inner [] = 0
inner_greatest inner (b ∷ bs) = max (inner b.system) (inner_greatest inner bs)

abbrev pub size_with : (ℕ → ℕ) → (ℕ → ℕ) → PlainSystem → ℕ
size_with calls inner s = 1 + (term_size calls s.init + (term_size calls s.trans + (term_size calls s.inv + (length s.locals + inner_sum inner s.subsystems))))

abbrev pub height_with : (ℕ → ℕ) → (ℕ → ℕ) → PlainSystem → ℕ
height_with calls inner s = max (term_height calls s.init) (max (term_height calls s.trans) (max (term_height calls s.inv) (inner_greatest inner s.subsystems)))

abbrev pub nesting_with : (ℕ → ℕ) → PlainSystem → ℕ
nesting_with inner s = 1 + inner_greatest inner s.subsystems

abbrev pub amount_with : Measure → (ℕ → ℕ) → (ℕ → ℕ) → PlainSystem → ℕ
amount_with Size calls inner s = size_with calls inner s
amount_with Height calls inner s = height_with calls inner s
amount_with Nesting calls inner s = nesting_with inner s

-- of system i, where subsystems nest at most so deep
abbrev pub amount_upto : Measure → (ℕ → ℕ) → List PlainSystem → ℕ → ℕ → ℕ
amount_upto Size calls ss n i = instance_size calls ss n i
amount_upto Height calls ss n i = instance_height calls ss n i
amount_upto Nesting calls ss n i = nesting_upto ss n i

-- the graph in which each system leads to those of its subsystems
abbrev pub systems_inside : PlainSystem → List ℕ
systems_inside s = map (λ (b : Subsystem). b.system) s.subsystems

abbrev pub links_of : List PlainSystem → NodeLists
links_of ss = map systems_inside ss

-- subsystems are there and nest less deep, and the number of systems bounds how deep
pub record AreRanked (ss : List PlainSystem) : Type 0 where
  pub there : (i : ℕ) → i < length ss → AllByRecursion (λ (b : Subsystem). b.system < length ss) (system_at ss i).subsystems
  pub falls : (i : ℕ) → i < length ss → AllByRecursion (λ (b : Subsystem). nesting_upto ss (length ss) b.system < nesting_upto ss (length ss) i) (system_at ss i).subsystems
  pub enough : (i : ℕ) → i < length ss → IsEnough ss (length ss) i

-- Subsystems that contain the system in which they stand, directly or through further subsystems. The nodes of a graph are all
-- subsystems, in the order in which they stand, and behind them all systems. A subsystem leads to its system, and a system to
-- its subsystems.
use Rattle.std.specs.Prelude.{ℕ, zero, suc, ◌+◌, nat_lt, if◌then◌else◌, Option, None, Some, List, [], ◌∷◌, ◌++◌, length}
use Rattle.text_core.specs.declared.place.Refusal.{Refusal}
use Rattle.digraph.specs.Graph.{NodeLists, leads}
use Rattle.name_maps.specs.Names.{place_of}
use Rattle.moxi_scripts.specs.declared.parts.Use.{Use}
use Rattle.moxi_scripts.specs.Collecting.{fails_if}
use Rattle.moxi_scripts.specs.Systems.{SystemReading}

abbrev pub count_uses : List SystemReading → ℕ
count_uses [] = 0
count_uses (r ∷ rs) = length r.uses + count_uses rs

-- the node of a system, where it is there
abbrev pub ends_at : ℕ → ℕ → Option ℕ → List ℕ
ends_at uses systems None = []
ends_at uses systems (Some j) = if nat_lt j systems then (uses + j) ∷ [] else []

abbrev pub use_rows : ℕ → ℕ → List (List ℕ) → List Use → NodeLists
use_rows uses systems names [] = []
use_rows uses systems names (u ∷ us) = ends_at uses systems (place_of names u.target) ∷ use_rows uses systems names us

abbrev pub all_use_rows : ℕ → ℕ → List (List ℕ) → List SystemReading → NodeLists
all_use_rows uses systems names [] = []
all_use_rows uses systems names (r ∷ rs) = use_rows uses systems names r.uses ++ all_use_rows uses systems names rs

-- so many nodes from this one on
abbrev pub nodes_from : ℕ → ℕ → List ℕ
nodes_from start zero = []
nodes_from start (suc n) = start ∷ nodes_from (suc start) n

abbrev pub system_rows : ℕ → List SystemReading → NodeLists
system_rows start [] = []
system_rows start (r ∷ rs) = nodes_from start (length r.uses) ∷ system_rows (start + length r.uses) rs

abbrev pub use_graph : List SystemReading → List (List ℕ) → NodeLists
use_graph rs names = all_use_rows (count_uses rs) (length rs) names rs ++ system_rows 0 rs

-- a subsystem that leads to itself fails
abbrev pub use_tests : NodeLists → ℕ → Use → List Refusal
use_tests g node u = fails_if (leads g (suc (length g)) node node) 11 u.place

abbrev pub use_cycles : NodeLists → ℕ → List Use → List Refusal
use_cycles g node [] = []
use_cycles g node (u ∷ us) = use_tests g node u ++ use_cycles g (suc node) us

abbrev pub all_cycles : NodeLists → ℕ → List SystemReading → List Refusal
all_cycles g node [] = []
all_cycles g node (r ∷ rs) = use_cycles g node r.uses ++ all_cycles g (node + length r.uses) rs

abbrev pub cycle_failures : List SystemReading → List (List ℕ) → List Refusal
cycle_failures rs names = all_cycles (use_graph rs names) 0 rs

-- The items of a list of definitions and actuals.
use Rattle.std.specs.Prelude.{ℕ, List, [], flat_map, Option, Some, None, slice_get}
use Rattle.name_maps.specs.declared.instance_rows.InstanceRows.{InstanceRows}
use Rattle.name_maps.specs.Rows.{row_in}
use Rattle.smv_references.specs.declared.bodies.Body.{Body}
use Rattle.smv_flat_laws.specs.FlatOrders.{number_listed}

-- the number of the item, where there is one
abbrev pub number_of : InstanceRows ℕ → Option Body → List ℕ
number_of numbers None = []
number_of numbers (Some b) = number_listed (row_in numbers b.instance b.name.now)

-- the items of those at these places
abbrev pub numbers_in : InstanceRows ℕ → List Body → List ℕ → List ℕ
numbers_in numbers bodies order = flat_map (λ b. number_of numbers (slice_get bodies b)) order

use Rattle.std.proofs.Common.{◌≡◌, ◌++◌, drop, map}
use Rattle.smv_operators.specs.View.{seen_value}
use Rattle.smv_rows.specs.Places.{given_value}
use Rattle.smv_rows.proofs.variables.give_variables.Given as goal

abbrev pub invariant-loop-item : goal.invariant-loop-item
invariant-loop-item l = map seen_value l.values.items ++ map (given_value l.state l.label) (drop l.item-index l.places) ≡ map (given_value l.state l.label) l.places

use Rattle.std.proofs.Common.{◌≡◌, ◌++◌, drop, map}
use Rattle.smv_operators.specs.View.{seen_value}
use Rattle.smv_rows.specs.Listed.{listed_values}
use Rattle.smv_rows.proofs.listed.give_listed.Given as goal

abbrev pub invariant-loop-item : goal.invariant-loop-item
invariant-loop-item l = map seen_value l.values.items ++ listed_values (map (λ m. m.kind) (drop l.item-index l.items)) l.state l.label ≡ listed_values (map (λ m. m.kind) l.items) l.fn.state l.fn.label

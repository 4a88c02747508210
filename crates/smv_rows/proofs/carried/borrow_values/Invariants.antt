use Rattle.std.proofs.Common.{◌≡◌, ◌++◌, drop, map}
use Rattle.smv_operators.specs.View.{seen_value}
use Rattle.smv_rows.proofs.carried.borrow_values.Given as goal

abbrev pub invariant-loop-value : goal.invariant-loop-value
invariant-loop-value l = map seen_value l.values.items ++ (drop l.value-index l.from) ≡ l.from

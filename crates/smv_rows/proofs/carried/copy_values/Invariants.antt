use Rattle.std.proofs.Common.{◌≡◌, take}
use Rattle.smv_rows.proofs.carried.copy_values.Given as goal

abbrev pub invariant-loop-value : goal.invariant-loop-value
invariant-loop-value l = l.values.items ≡ take l.value-index l.from

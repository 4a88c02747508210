use Rattle.std.proofs.Common.{◌≡◌, drop, map}
use Rattle.smv_operators.specs.View.{seen_value}
use Rattle.smv_rows.specs.Numbered.{set_by}
use Rattle.smv_rows.proofs.carried.carry_changes.Given as goal

abbrev pub invariant-loop-change : goal.invariant-loop-change
invariant-loop-change l = set_by (map seen_value l.values.items) (drop l.change-index l.changes) ≡ set_by (map seen_value l.fn.values.items) l.changes

use Rattle.std.proofs.Common.{◌≡◌, map}
use Rattle.smv_items.specs.FlatItemView.{item_plain}
use Rattle.smv_flat_evaluation.specs.RowValues.{row_values}
use Rattle.smv_script_terms.specs.Groups.{group_plain}
use Rattle.trace_lower.specs.Stating.{stated_upto}
use Rattle.trace_lower.proofs.frames.state_group.Given as goal

abbrev pub invariant-loop-k : goal.invariant-loop-k
invariant-loop-k l = l.inputs ≡ stated_upto l.coder (map item_plain l.items) (row_values l.values) (group_plain l.group) l.k

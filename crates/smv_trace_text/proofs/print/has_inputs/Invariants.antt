use Rattle.std.proofs.Common.{◌≡◌, drop, map}
use Rattle.smv_items.specs.FlatItemView.{item_plain}
use Rattle.smv_trace_text.specs.Texts.{has_inputs}
use Rattle.smv_trace_text.proofs.print.has_inputs.Given as goal

abbrev pub invariant-loop-k : goal.invariant-loop-k
invariant-loop-k l = has_inputs (map item_plain (drop l.k l.items)) ≡ has_inputs (map item_plain l.items)

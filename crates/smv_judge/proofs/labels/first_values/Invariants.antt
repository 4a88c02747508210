use Rattle.std.proofs.Common.{◌≡◌, ◌++◌, map, length}
use Rattle.smv_items.specs.FlatItemView.{item_plain}
use Rattle.smv_judge.specs.Labels.{first_value}
use Rattle.smv_judge.proofs.labels.first_values.Given as goal

abbrev pub invariant-loop-item : goal.invariant-loop-item
invariant-loop-item l = l.values ++ map (λ m. first_value m.type m.members) (map item_plain l.rest) ≡ map (λ m. first_value m.type m.members) (map item_plain l.items)

abbrev pub decreases-loop-item : goal.decreases-loop-item
decreases-loop-item l = length l.rest

use Rattle.std.proofs.Common.{◌≡◌, ◌+◌, ◌*◌, ◌++◌, drop, length, map}
use Rattle.smv_items.specs.FlatItemView.{item_plain}
use Rattle.smv_script_terms.specs.Groups.{AreAtMost, counts_plain, numbers_from, start_counts}
use Rattle.smv_script_terms.proofs.variables.places_of.Given as goal

abbrev pub invariant-loop-item : goal.invariant-loop-item
invariant-loop-item l =
    (l.all.items ++ numbers_from (counts_plain l.counts) (map item_plain (drop l.item-index l.items)) ≡ numbers_from (start_counts (map item_plain l.items)) (map item_plain l.items))
    × AreAtMost (2 * length l.items + l.item-index) l.counts

use Rattle.std.proofs.Common.{◌≡◌, ◌++◌, map}
use Rattle.std.specs.Slice.Iter.{iter_rest}
use Rattle.smv_text.specs.View.{plain_item}
use Rattle.smv_names.specs.View.{declared_plain}
use Rattle.smv_names.proofs.declared.add_items.Given as goal
use Rattle.smv_meaning.specs.Phases.{item_declared}

abbrev pub invariant-loop-item : goal.invariant-loop-item
invariant-loop-item l = map declared_plain l.list.items ++ map item_declared (map plain_item (iter_rest l.item-iterator)) ≡ map declared_plain l.fn.list.items ++ map item_declared (map plain_item l.items)

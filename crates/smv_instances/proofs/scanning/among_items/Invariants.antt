use Rattle.std.proofs.Common.{◌≡◌, map}
use Rattle.std.specs.Slice.Iter.{iter_rest}
use Rattle.smv_text.specs.View.{plain_item}
use Rattle.smv_meaning.specs.Names.{Local, among_items}
use Rattle.smv_instances.proofs.scanning.among_items.Given as goal

abbrev pub invariant-loop-item : goal.invariant-loop-item
invariant-loop-item l = (other : Local) → among_items l.kind (map plain_item (iter_rest l.item-iterator)) l.x other ≡ among_items l.kind (map plain_item l.items) l.x other

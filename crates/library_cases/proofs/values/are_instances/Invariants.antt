use Rattle.std.proofs.Common.{◌≡◌, map}
use Rattle.std.specs.List.{list_all}
use Rattle.std.specs.Slice.Iter.{iter_rest}
use Rattle.smv_text.specs.View.{plain_item}
use Rattle.library_cases.specs.Free.{is_free_item}
use Rattle.library_cases.proofs.values.are_instances.Given as goal

abbrev pub invariant-loop-item : goal.invariant-loop-item
invariant-loop-item l = list_all is_free_item (map plain_item (iter_rest l.item-iterator)) ≡ list_all is_free_item (map plain_item l.items)

use Rattle.std.proofs.Common.{◌≡◌, ◌++◌, map}
use Rattle.std.specs.Slice.Iter.{iter_rest}
use Rattle.std.specs.List.{flat_map}
use Rattle.smv_text.specs.View.{plain_item}
use Rattle.smv_lex.specs.Spelling.{spaced}
use Rattle.smv_print.specs.Printing.{item_kinds}
use Rattle.smv_print.proofs.printing.put_items.Given as goal

abbrev pub invariant-loop-item : goal.invariant-loop-item
invariant-loop-item l = l.out ++ spaced (flat_map item_kinds (map plain_item (iter_rest l.item-iterator))) ≡ l.fn.out ++ spaced (flat_map item_kinds (map plain_item l.fn.items))

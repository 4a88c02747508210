use Rattle.std.proofs.Common.{◌≡◌, ◌||◌, ℕ, List, map, is_some}
use Rattle.std.specs.List.{list_any}
use Rattle.std.specs.Slice.Iter.{iter_rest}
use Rattle.smv_text.specs.View.{plain_item}
use Rattle.smv_meaning.specs.Names.{item_has}
use Rattle.name_maps.specs.Maps.{named}
use Rattle.smv_instances.proofs.symbols.put_domains.Given as goal

abbrev pub invariant-loop-item : goal.invariant-loop-item
invariant-loop-item l = (x : List ℕ) → (is_some (named l.symbols x) || list_any (item_has x) (map plain_item (iter_rest l.item-iterator))) ≡ (is_some (named l.fn.symbols x) || list_any (item_has x) (map plain_item l.items))

use Rattle.std.proofs.Common.{◌≡◌, ◌++◌, drop, length, map, option_map}
use Rattle.std.specs.Vec.Iter.{into_iter_items}
use Rattle.smv_intervals.specs.View.{seen}
use Rattle.smv_items.specs.FlatItemView.{item_plain}
use Rattle.smv_items.specs.FlatOrigins.{origin_plain}
use Rattle.smv_flatten.specs.Listing.{items_with}
use Rattle.smv_flatten.proofs.item_list.flat_items.Given as goal

abbrev pub invariant-loop-name : goal.invariant-loop-name
invariant-loop-name l = record {
  paths : length (into_iter_items l.name-iterator) ≡ length (drop l.k l.origins);
  types : length (drop l.k l.types) ≡ length (drop l.k l.origins);
  made : map item_plain l.items.items ++ items_with (map origin_plain (drop l.k l.origins)) (into_iter_items l.name-iterator) (map (option_map seen) (drop l.k l.types))
      ≡ items_with (map origin_plain l.origins) l.fn.paths.items (map (option_map seen) l.types);
}

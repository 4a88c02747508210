use Rattle.std.proofs.Common.{◌≡◌, ◌++◌, true, drop, map}
use Rattle.name_maps.specs.Names.{are_fresh}
use Rattle.smv_items.specs.FlatItemView.{item_plain}
use Rattle.smv_trace.proofs.table.names_of.Given as goal

abbrev pub invariant-loop-k : goal.invariant-loop-k
invariant-loop-k l = record {
  all : l.names ++ map (λ m. m.name) (map item_plain (drop l.k l.items)) ≡ map (λ m. m.name) (map item_plain l.items);
  fresh : are_fresh l.names (map (λ m. m.name) (map item_plain (drop l.k l.items))) ≡ true;
}

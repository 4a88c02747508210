use Rattle.std.proofs.Common.{◌≡◌, ◌++◌, drop, map}
use Rattle.smv_rows.specs.Places.{kind_and_place, item_place, AreNamed}
use Rattle.smv_rows.proofs.places.places_of.Given as goal

abbrev pub invariant-loop-item : goal.invariant-loop-item
invariant-loop-item l = record {
  named : AreNamed l.names (drop l.item-index l.items);
  same : map kind_and_place l.places.items ++ map (item_place l.names) (drop l.item-index l.items) ≡ map (item_place l.names) l.items;
}

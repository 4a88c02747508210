use Rattle.std.proofs.Common.{◌≡◌, ◌+◌, ◌++◌}
use Rattle.smv_script.specs.Script.{group_start, place_of_item}
use Rattle.moxi_terms.specs.Value.{at}
use Rattle.smv_to_moxi.specs.Lifting.{group_in, read_of}
use Rattle.smv_to_moxi.proofs.LiftedParts.{before, items_of, rest_read}
use Rattle.smv_to_moxi.proofs.lift.read.Given as goal

abbrev pub invariant-loop-item : goal.invariant-loop-item
invariant-loop-item l = record {
  whole : l.item-items ≡ l.flat.items;
  read : l.state ++ rest_read l.flat.symbols (place_of_item (items_of l.flat)) l.part (at l.env) (items_of l.flat) l.item-index ≡ read_of l.part l.flat l.env;
  place : l.place ≡ group_start (items_of l.flat) (group_in l.part) + before l.part (items_of l.flat) l.item-index;
}

use Rattle.std.proofs.Common.{map, take}
use Rattle.smv_meaning.specs.Orders.{numbered}
use Rattle.smv_instances.specs.View.{instance_plain}
use Rattle.smv_model_types.specs.Entries.{entries_seen}
use Rattle.smv_model_types.specs.Kept.{AreKept}
use Rattle.smv_model_types.proofs.Filling.{Holds}
use Rattle.smv_model_types.proofs.bodies.bodies_typed.Given as goal

abbrev pub invariant-loop-number : goal.invariant-loop-number
invariant-loop-number l =
    let t = map instance_plain l.model.table.now in
    Holds t (entries_seen l.model.numbers.now.bodies l.entries.items) (map (numbered t) (take l.number-index l.number-items)) × AreKept t l.kept.items

use Rattle.std.proofs.Common.{drop}
use Rattle.smv_rows.proofs.Named.{NamesOn}
use Rattle.smv_rows.proofs.places.name_all.Given as goal

abbrev pub invariant-loop-item : goal.invariant-loop-item
invariant-loop-item l = NamesOn l.names (drop l.item-index l.items) l.items

use Rattle.btor_frames.specs.Tables.{HoldsNone}
use Rattle.btor_frames.proofs.tables.no_values.Given as goal

abbrev pub invariant-loop-i : goal.invariant-loop-i
invariant-loop-i l = HoldsNone l._i l.values.items

use Rattle.std.proofs.Common.{◌≡◌, ◌++◌, map}
use Rattle.std.specs.Slice.Iter.{iter_rest}
use Rattle.btor_witness.specs.Room.{zero_of}
use Rattle.btor_witness.proofs.room.zeros.Given as goal

abbrev pub invariant-loop-width : goal.invariant-loop-width
invariant-loop-width l = l.words ++ map zero_of (iter_rest l.width-iterator) ≡ map zero_of l.widths

use Rattle.std.proofs.Common.{take, map}
use Rattle.btor_witness.specs.Room.{ArePut, zeroed}
use Rattle.btor_witness.proofs.room.put_zeros.Given as goal

abbrev pub invariant-loop-statement : goal.invariant-loop-statement
invariant-loop-statement l = ArePut (map zeroed (take l.statement-index l.stated)) l.fn.words l.words

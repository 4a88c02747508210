use Rattle.std.proofs.Common.{take}
use Rattle.btor_witness.specs.Room.{ArePut}
use Rattle.btor_witness.proofs.room.put_stated.Given as goal

abbrev pub invariant-loop-statement : goal.invariant-loop-statement
invariant-loop-statement l = ArePut (take l.statement-index l.stated) l.fn.words l.words

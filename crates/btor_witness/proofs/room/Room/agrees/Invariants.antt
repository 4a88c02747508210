use Rattle.std.proofs.Common.{take}
use Rattle.std.specs.List.{AllByRecursion}
use Rattle.btor_tree.specs.Fits.{is_state}
use Rattle.btor_witness.specs.Room.{IsWordThere, places_of}
use Rattle.btor_witness.proofs.room.Room.agrees.Given as goal

abbrev pub invariant-loop-statement : goal.invariant-loop-statement
invariant-loop-statement l = AllByRecursion (IsWordThere (places_of is_state l.nodes) l.fn.self.frames.row) (take l.statement-index l.stated)

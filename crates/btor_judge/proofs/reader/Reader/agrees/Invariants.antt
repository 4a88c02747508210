use Rattle.std.proofs.Common.{◌<◌, ℕ}
use Rattle.btor_tree.specs.Fits.{is_state}
use Rattle.btor_witness.specs.Room.{places_of}
use Rattle.btor_judge.specs.Standing.{AgreesAt}
use Rattle.btor_judge.proofs.reader.Reader.agrees.Given as goal

abbrev pub invariant-loop-k : goal.invariant-loop-k
invariant-loop-k l = (i : ℕ) → i < l.k → AgreesAt (places_of is_state l.nodes) l.fn.self.frames.row l.fn.self.states i

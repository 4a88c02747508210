use Rattle.std.proofs.Common.{◌≡◌, take}
use Rattle.btor_tree.specs.Fits.{is_state}
use Rattle.btor_witness.specs.Room.{places_in}
use Rattle.btor_witness.proofs.room.state_places.Given as goal

abbrev pub invariant-loop-i : goal.invariant-loop-i
invariant-loop-i l = l.places ≡ places_in 0 is_state (take l.i l.nodes)

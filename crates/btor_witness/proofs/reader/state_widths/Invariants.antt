use Rattle.std.proofs.Common.{◌≡◌, take}
use Rattle.btor_tree.specs.Fits.{is_state}
use Rattle.btor_witness.proofs.Widths.{widths_in}
use Rattle.btor_witness.proofs.reader.state_widths.Given as goal

abbrev pub invariant-loop-i : goal.invariant-loop-i
invariant-loop-i l = l.widths ≡ widths_in l.nodes is_state (take l.i l.nodes)

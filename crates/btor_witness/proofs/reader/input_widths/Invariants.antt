use Rattle.std.proofs.Common.{◌≡◌, take}
use Rattle.btor_tree.specs.Fits.{is_input}
use Rattle.btor_witness.proofs.Widths.{widths_in}
use Rattle.btor_witness.proofs.reader.input_widths.Given as goal

abbrev pub invariant-loop-i : goal.invariant-loop-i
invariant-loop-i l = l.widths ≡ widths_in l.nodes is_input (take l.i l.nodes)

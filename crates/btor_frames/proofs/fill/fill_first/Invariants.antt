use Rattle.std.proofs.Common.{◌≡◌, false, [], length, take}
use Rattle.btor_tree.specs.Fits.{count_of, is_input, is_state}
use Rattle.btor_tree.proofs.Rows.{row_upto}
use Rattle.btor_frames.proofs.Loop.{giving}
use Rattle.btor_frames.proofs.fill.fill_first.Given as goal

abbrev pub invariant-loop-i : goal.invariant-loop-i
invariant-loop-i l = record {
  long : length l.spare ≡ length l.nodes;
  filled : take l.i l.spare ≡ row_upto l.nodes (giving false l.nodes [] l.supplied.inputs.now l.supplied.free.now) l.i;
  input_is : l.seen.input ≡ count_of is_input (take l.i l.nodes);
  state_is : l.seen.state ≡ count_of is_state (take l.i l.nodes);
}

use Rattle.std.proofs.Common.{◌≡◌, length, take}
use Rattle.btor_tree.specs.Fits.{count_of, is_input, is_state}
use Rattle.btor_frames.proofs.NextWords.{AreSources}
use Rattle.btor_frames.proofs.sources.sources.Given as goal

abbrev pub invariant-loop-i : goal.invariant-loop-i
invariant-loop-i l = record {
  sized : length l.sources ≡ l.i;
  at : AreSources l.nodes l.sources;
  input_is : l.input ≡ count_of is_input (take l.i l.nodes);
  state_is : l.state ≡ count_of is_state (take l.i l.nodes);
}

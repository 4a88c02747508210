use Rattle.std.proofs.Common.{sym, subst}
use Rattle.btor_tree.specs.Fits.{is_state}
use Rattle.btor_witness.specs.Room.{AreWidths}
use Rattle.btor_witness.proofs.Places.{are_widths}
use Rattle.btor_witness.proofs.Widths.{state_has_word}
use Rattle.btor_witness.proofs.room.state_buffer.Goals as goal

pub zeros-words-requires : goal.zeros-words-requires
zeros-words-requires c =
    subst AreWidths (sym c.in_ok-widths.ensures) (are_widths c.args.nodes.now is_state c.are_well_formed.ensures state_has_word)

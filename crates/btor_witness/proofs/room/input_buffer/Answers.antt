use Rattle.std.proofs.Common.{sym, subst}
use Rattle.btor_tree.specs.Fits.{is_input}
use Rattle.btor_witness.specs.Room.{AreWidths}
use Rattle.btor_witness.proofs.Places.{are_widths}
use Rattle.btor_witness.proofs.Widths.{input_has_word}
use Rattle.btor_witness.proofs.room.input_buffer.Goals as goal

pub zeros-words-requires : goal.zeros-words-requires
zeros-words-requires c =
    subst AreWidths (sym c.in_ok-widths.ensures) (are_widths c.args.nodes.now is_input c.are_well_formed.ensures input_has_word)

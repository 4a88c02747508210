use Rattle.std.proofs.Common.{length, sym}
use Rattle.btor_tree.specs.Fits.{is_state, is_input}
use Rattle.btor_frames.proofs.Stating.{step_stated}
use Rattle.btor_witness.specs.Sizes.{widths_of}
use Rattle.btor_witness.specs.Judging.{statement_of}
use Rattle.btor_witness.proofs.Tables.{all_below}
use Rattle.btor_witness.proofs.Statements.{put_holds, clear_holds, all_words}
use Rattle.btor_witness.proofs.Judgement.{hands, handed_fit}
use Rattle.btor_witness.proofs.room.Room.step.Goals as goal

pub step-requires-clause-handed : goal.step-requires-clause-handed
step-requires-clause-handed c =
    let lines = c.args.nodes.now in
    let f = c.args.frame.now in
    let h = put_holds (widths_of is_input lines) f.inputs c.args.self.now.inputs c.put_stated.new.words c.requires.fits.inputs c.put_stated.ensures in
    let k = put_holds (widths_of is_state lines) f.states c.args.self.now.free c.put_stated-2.new.words c.requires.fits.free c.put_stated-2.ensures in
    handed_fit lines f c.put_stated.new.words c.put_stated-2.new.words c.are_well_formed.ensures c.requires.inputs c.requires.states h k

pub put_zeros-requires-clause-below : goal.put_zeros-requires-clause-below
put_zeros-requires-clause-below c =
    let widths = widths_of is_input c.args.nodes.now in
    let h = put_holds widths c.args.frame.now.inputs c.args.self.now.inputs c.put_stated.new.words c.requires.fits.inputs c.put_stated.ensures in
    all_below widths (length c.put_stated.new.words) c.args.frame.now.inputs (sym h.sized) c.requires.inputs.0

pub put_zeros-requires-clause-words : goal.put_zeros-requires-clause-words
put_zeros-requires-clause-words c = all_words (widths_of is_input c.args.nodes.now) c.args.frame.now.inputs c.requires.inputs.0

pub put_zeros-requires-2-clause-below : goal.put_zeros-requires-2-clause-below
put_zeros-requires-2-clause-below c =
    let widths = widths_of is_state c.args.nodes.now in
    let k = put_holds widths c.args.frame.now.states c.args.self.now.free c.put_stated-2.new.words c.requires.fits.free c.put_stated-2.ensures in
    all_below widths (length c.put_stated-2.new.words) c.args.frame.now.states (sym k.sized) c.requires.states.0

pub put_zeros-requires-2-clause-words : goal.put_zeros-requires-2-clause-words
put_zeros-requires-2-clause-words c = all_words (widths_of is_state c.args.nodes.now) c.args.frame.now.states c.requires.states.0

pub returns-clause-fits : goal.returns-clause-fits
returns-clause-fits c =
    let lines = c.args.nodes.now in
    let f = c.args.frame.now in
    let h = put_holds (widths_of is_input lines) f.inputs c.args.self.now.inputs c.put_stated.new.words c.requires.fits.inputs c.put_stated.ensures in
    let k = put_holds (widths_of is_state lines) f.states c.args.self.now.free c.put_stated-2.new.words c.requires.fits.free c.put_stated-2.ensures in
    record {
      frames = c.step.ensures.fits;
      inputs = clear_holds (widths_of is_input lines) f.inputs c.put_stated.new.words c.put_zeros.new.words c.requires.inputs.0 h c.put_zeros.ensures;
      free = clear_holds (widths_of is_state lines) f.states c.put_stated-2.new.words c.put_zeros-2.new.words c.requires.states.0 k c.put_zeros-2.ensures;
      places = c.requires.fits.places;
    }

pub returns-clause-next : goal.returns-clause-next
returns-clause-next c =
    let lines = c.args.nodes.now in
    let f = c.args.frame.now in
    let h = put_holds (widths_of is_input lines) f.inputs c.args.self.now.inputs c.put_stated.new.words c.requires.fits.inputs c.put_stated.ensures in
    let k = put_holds (widths_of is_state lines) f.states c.args.self.now.free c.put_stated-2.new.words c.requires.fits.free c.put_stated-2.ensures in
    step_stated lines c.args.self.now.frames.begun c.args.self.now.frames.row c.put_stated.new.words c.put_stated-2.new.words c.step.new.self.row (statement_of f) (hands lines f c.put_stated.new.words c.put_stated-2.new.words h k) c.step.ensures.next

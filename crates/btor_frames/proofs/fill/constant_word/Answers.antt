use Rattle.std.proofs.Common.{arith}
use Rattle.btor_frames.proofs.Lines.{constant_facts, constant_fits}
use Rattle.btor_frames.proofs.fill.constant_word.Goals as goal

pub overflow_cast-i : goal.overflow_cast-i
overflow_cast-i c =
    let f = constant_facts c.args.nodes.now c.args.i c.requires.well_formed c.requires.constant in
    omega (arith, f.inside, f.small)

pub width_of-width-requires : goal.width_of-width-requires
width_of-width-requires c =
    (constant_facts c.args.nodes.now c.args.i c.requires.well_formed c.requires.constant).some

pub at-requires : goal.at-requires
at-requires c =
    (constant_facts c.args.nodes.now c.args.i c.requires.well_formed c.requires.constant).inside

pub word_of-requires : goal.word_of-requires
word_of-requires c =
    let f = constant_facts c.args.nodes.now c.args.i c.requires.well_formed c.requires.constant in
    constant_fits c.args.nodes.now c.args.i c.width_of-width.result 1 f c.width_of-width.ensures f.one_fits

pub word_of-requires-in-Zero : goal.word_of-requires-in-Zero
word_of-requires-in-Zero c =
    let f = constant_facts c.args.nodes.now c.args.i c.requires.well_formed c.requires.constant in
    constant_fits c.args.nodes.now c.args.i c.width_of-width.result 0 f c.width_of-width.ensures f.zero_fits

pub word_of-requires-in-Ones : goal.word_of-requires-in-Ones
word_of-requires-in-Ones c =
    let f = constant_facts c.args.nodes.now c.args.i c.requires.well_formed c.requires.constant in
    constant_fits c.args.nodes.now c.args.i c.width_of-width.result 0 f c.width_of-width.ensures f.zero_fits

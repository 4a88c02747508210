use Rattle.btor_tree.specs.Frame.{nothing}
use Rattle.btor_frames.proofs.Lines.{unary_owes, binary_owes, ite_owes, slice_owes, uext_owes, sext_owes, unary_gives, binary_puts, ite_gives, slice_gives, uext_gives, sext_gives, constant_gives, one_of_constants, put_here}
use Rattle.btor_frames.proofs.fill.put_computed.Goals as goal

pub unary_word-requires : goal.unary_word-requires
unary_word-requires c =
    unary_owes c.args.nodes.now c.args.i c.at-line.result.now c.args.spare.now c.requires.well_formed c.at-line.ensures c.requires.inside c.requires.long c.in-Unary.op c.in-Unary.is

pub put_binary-requires-clause-fits : goal.put_binary-requires-clause-fits
put_binary-requires-clause-fits c =
    binary_owes c.args.nodes.now c.args.i c.at-line.result.now c.args.spare.now c.requires.well_formed c.at-line.ensures c.requires.inside c.requires.long c.in-Binary.op c.in-Binary.is c.requires.frame

pub ite_word-requires : goal.ite_word-requires
ite_word-requires c =
    ite_owes c.args.nodes.now c.args.i c.at-line.result.now c.args.spare.now c.requires.well_formed c.at-line.ensures c.requires.inside c.requires.long c.in-Ite.is c.requires.frame

pub slice_word-requires : goal.slice_word-requires
slice_word-requires c =
    slice_owes c.args.nodes.now c.args.i c.at-line.result.now c.args.spare.now c.requires.well_formed c.at-line.ensures c.requires.inside c.requires.long c.in-Slice.high c.in-Slice.low c.in-Slice.is c.requires.frame

pub uext_word-requires : goal.uext_word-requires
uext_word-requires c =
    uext_owes c.args.nodes.now c.args.i c.at-line.result.now c.args.spare.now c.requires.well_formed c.at-line.ensures c.requires.inside c.requires.long c.in-Uext.count c.in-Uext.is c.requires.frame

pub sext_word-requires : goal.sext_word-requires
sext_word-requires c =
    sext_owes c.args.nodes.now c.args.i c.at-line.result.now c.args.spare.now c.requires.well_formed c.at-line.ensures c.requires.inside c.requires.long c.in-Sext.count c.in-Sext.is c.requires.frame

pub returns-in-Unary : goal.returns-in-Unary
returns-in-Unary c =
    put_here c.args.nodes.now c.args.i c.args.spare.now c.set-in-Unary.new.self c.unary_word.result c.set-in-Unary.ensures
    (unary_gives c.args.nodes.now c.args.i c.at-line.result.now c.args.spare.now c.requires.well_formed c.at-line.ensures c.requires.inside c.requires.long c.in-Unary.op c.unary_word.result nothing c.in-Unary.is c.unary_word.ensures)

pub returns-in-Binary : goal.returns-in-Binary
returns-in-Binary c =
    binary_puts c.args.nodes.now c.args.i c.at-line.result.now c.args.spare.now c.requires.well_formed c.at-line.ensures c.requires.inside c.requires.long c.in-Binary.op c.put_binary.new.row c.in-Binary.is c.put_binary.ensures

pub returns-in-Ite : goal.returns-in-Ite
returns-in-Ite c =
    put_here c.args.nodes.now c.args.i c.args.spare.now c.set-in-Ite.new.self c.ite_word.result c.set-in-Ite.ensures
    (ite_gives c.args.nodes.now c.args.i c.at-line.result.now c.args.spare.now c.requires.well_formed c.at-line.ensures c.requires.inside c.requires.long c.ite_word.result nothing c.in-Ite.is c.ite_word.ensures)

pub returns-in-Slice : goal.returns-in-Slice
returns-in-Slice c =
    put_here c.args.nodes.now c.args.i c.args.spare.now c.set-in-Slice.new.self c.slice_word.result c.set-in-Slice.ensures
    (slice_gives c.args.nodes.now c.args.i c.at-line.result.now c.args.spare.now c.requires.well_formed c.at-line.ensures c.requires.inside c.requires.long c.in-Slice.high c.in-Slice.low c.slice_word.result nothing c.in-Slice.is c.slice_word.ensures)

pub returns-in-Uext : goal.returns-in-Uext
returns-in-Uext c =
    put_here c.args.nodes.now c.args.i c.args.spare.now c.set-in-Uext.new.self c.uext_word.result c.set-in-Uext.ensures
    (uext_gives c.args.nodes.now c.args.i c.at-line.result.now c.args.spare.now c.requires.well_formed c.at-line.ensures c.requires.inside c.requires.long c.in-Uext.count c.uext_word.result nothing c.in-Uext.is c.uext_word.ensures)

pub returns-in-Sext : goal.returns-in-Sext
returns-in-Sext c =
    put_here c.args.nodes.now c.args.i c.args.spare.now c.set-in-Sext.new.self c.sext_word.result c.set-in-Sext.ensures
    (sext_gives c.args.nodes.now c.args.i c.at-line.result.now c.args.spare.now c.requires.well_formed c.at-line.ensures c.requires.inside c.requires.long c.in-Sext.count c.sext_word.result nothing c.in-Sext.is c.sext_word.ensures)

pub returns-in-Constant : goal.returns-in-Constant
returns-in-Constant c =
    put_here c.args.nodes.now c.args.i c.args.spare.now c.set.new.self c.constant_word.result c.set.ensures
    (constant_gives c.args.nodes.now c.args.i c.at-line.result.now c.args.spare.now c.requires.well_formed c.at-line.ensures c.requires.inside c.requires.long c.constant_word.result nothing (one_of_constants c.at-line.result.now.op c.in-Constant.is) c.constant_word.ensures)

use Rattle.std.proofs.Common.{ap, ◌∙◌}
use Rattle.std.specs.Prelude.{slice_set}
use Rattle.word_core.specs.Table.{binary_of}
use Rattle.btor_tree.specs.Frame.{operand}
use Rattle.btor_frames.proofs.Lines.{joined_put}
use Rattle.btor_frames.proofs.fill.put_joined.Goals as goal

pub returns : goal.returns
returns c =
    let row = c.args.row.now in
    let op = c.args.op in
    joined_put _ c.args.args.now row c.set.new.self c.args.i (binary_of op) c.at.result.now c.at-2.result.now c.requires.fits c.at.ensures c.at-2.ensures
    (c.set.ensures
    ∙ ap (slice_set row c.args.i) (c.binary.ensures ∙ ap (λ u. binary_of op u c.operand-2.result) c.operand.ensures ∙ ap (binary_of op (operand row c.at.result.now)) c.operand-2.ensures))

use Rattle.std.proofs.Common.{◌≡◌, true, false, length, sym, subst}
use Rattle.btor_tree.proofs.Rows.{row_upto}
use Rattle.btor_frames.proofs.Loop.{giving}
use Rattle.btor_frames.proofs.NextWords.{filled_blank}
use Rattle.btor_frames.proofs.next.fill.Goals as goal

pub returns-then-begun-clause-blank : goal.returns-then-begun-clause-blank
returns-then-begun-clause-blank c =
    filled_blank c.args.nodes.now true c.args.last.now c.args.supplied.now.inputs.now c.args.supplied.now.free.now c.fill_next.new.spare c.args.tables.now.sources c.requires.found.sources c.fill_next.ensures

pub returns-else-begun-clause-row : goal.returns-else-begun-clause-row
returns-else-begun-clause-row c =
    subst (λ b. c.fill_first.new.spare ≡ row_upto c.args.nodes.now (giving b c.args.nodes.now c.args.last.now c.args.supplied.now.inputs.now c.args.supplied.now.free.now) (length c.args.nodes.now)) (sym c.if-begun.false) c.fill_first.ensures

pub returns-else-begun-clause-blank : goal.returns-else-begun-clause-blank
returns-else-begun-clause-blank c =
    filled_blank c.args.nodes.now false c.args.last.now c.args.supplied.now.inputs.now c.args.supplied.now.free.now c.fill_first.new.spare c.args.tables.now.sources c.requires.found.sources c.fill_first.ensures

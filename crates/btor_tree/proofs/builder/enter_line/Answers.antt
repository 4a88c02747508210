use Rattle.std.proofs.Common.{sym, ◌∙◌}
use Rattle.btor_tree.proofs.TwoLevels.{has_other}
use Rattle.btor_tree.proofs.builder.enter_line.Goals as goal

pub returns-else-is_shared-clause-entered : goal.returns-else-is_shared-clause-entered
returns-else-is_shared-clause-entered c =
    has_other c.args.lines.now c.args.line.now c.args.places.now c.requires.has (sym c.is_shared.ensures ∙ c.if-is_shared.false)

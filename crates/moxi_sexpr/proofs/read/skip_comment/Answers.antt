use Rattle.std.proofs.Common.{sym, ◌∙◌}
use Rattle.moxi_sexpr.proofs.Lines.{comment_along}
use Rattle.moxi_sexpr.proofs.read.skip_comment.Goals as goal

pub returns-clause-place : goal.returns-clause-place
returns-clause-place c = c.along.ensures ∙ sym (comment_along c.args.place c.args.text.now c.run_length-size.result c.run_length-size.ensures.value c.run_length-size.ensures.within)

use Rattle.moxi_sexpr.proofs.Lines.{end_is}
use Rattle.moxi_sexpr.proofs.read.end_of.Goals as goal

pub returns : goal.returns
returns c = end_is c.args.text.now c.line_ends.result c.last_line.result c.line_ends.ensures.value c.last_line.ensures.value

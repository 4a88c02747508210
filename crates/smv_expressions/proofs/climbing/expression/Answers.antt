use Rattle.smv_expressions.proofs.Following.{takes_so}
use Rattle.smv_expressions.proofs.climbing.expression.Goals as goal

pub returns-clause-takes : goal.returns-clause-takes
returns-clause-takes c = takes_so _ c.args.tokens.now c.read.result c.read.ensures.reads

use Rattle.smv_grammar.proofs.Ranked.{level_of_code}
use Rattle.smv_grammar.proofs.levels.level_at.Goals as goal

pub returns : goal.returns
returns c = level_of_code c.args.n c.requires _

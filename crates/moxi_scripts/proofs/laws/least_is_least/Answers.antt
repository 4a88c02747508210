use Rattle.moxi_scripts.proofs.ScriptLaws.{first_is, none_fails}
use Rattle.moxi_scripts.proofs.laws.least_is_least.Goals as goal

pub returns : goal.returns
returns c = record { first = first_is; none = none_fails }

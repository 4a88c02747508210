use Rattle.smv_laws.proofs.ValueLaws.{states_give_law}
use Rattle.smv_laws.proofs.values.states_give.Goals as goal

pub returns : goal.returns
returns c = states_give_law

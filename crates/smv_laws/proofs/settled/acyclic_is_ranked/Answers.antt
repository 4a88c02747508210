use Rattle.smv_laws.proofs.Ranked.{acyclic_is_ranked_law}
use Rattle.smv_laws.proofs.settled.acyclic_is_ranked.Goals as goal

pub returns : goal.returns
returns c = acyclic_is_ranked_law

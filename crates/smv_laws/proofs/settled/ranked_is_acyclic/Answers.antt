use Rattle.smv_laws.proofs.Ranked.{ranked_is_acyclic_law}
use Rattle.smv_laws.proofs.settled.ranked_is_acyclic.Goals as goal

pub returns : goal.returns
returns c = ranked_is_acyclic_law

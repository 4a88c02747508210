use Rattle.moxi_lower.proofs.Witnesses.{lowered_are_witnesses_law}
use Rattle.moxi_lower.proofs.laws.lowered_are_witnesses.Goals as goal

pub returns : goal.returns
returns c = lowered_are_witnesses_law c.witnesses_name_queries.ensures

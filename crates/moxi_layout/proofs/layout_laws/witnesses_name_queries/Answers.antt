use Rattle.moxi_layout.proofs.Accepted.{witnesses_name_queries_law}
use Rattle.moxi_layout.proofs.layout_laws.witnesses_name_queries.Goals as goal

pub returns : goal.returns
returns c = witnesses_name_queries_law

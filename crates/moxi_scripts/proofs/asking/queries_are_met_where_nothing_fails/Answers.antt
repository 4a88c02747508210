use Rattle.moxi_scripts.proofs.MeetingLaws.{asks, meets}
use Rattle.moxi_scripts.proofs.asking.queries_are_met_where_nothing_fails.Goals as goal

pub returns-clause-meets : goal.returns-clause-meets
returns-clause-meets c s q k trace = meets s trace q k

pub returns-clause-asks : goal.returns-clause-asks
returns-clause-asks c s q k trace = asks s trace q k

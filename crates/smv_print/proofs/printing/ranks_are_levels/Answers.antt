use Rattle.smv_print.proofs.Raised.{level_first, infix_again, chain_rank}
use Rattle.smv_print.proofs.printing.ranks_are_levels.Goals as goal

pub returns-clause-ranks : goal.returns-clause-ranks
returns-clause-ranks c = level_first

pub returns-clause-operators : goal.returns-clause-operators
returns-clause-operators c = infix_again

pub returns-clause-chains : goal.returns-clause-chains
returns-clause-chains c = chain_rank

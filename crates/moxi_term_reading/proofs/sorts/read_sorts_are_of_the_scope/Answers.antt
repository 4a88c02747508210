use Rattle.moxi_term_reading.proofs.ReadSorts.{sort_is}
use Rattle.moxi_term_reading.proofs.sorts.read_sorts_are_of_the_scope.Goals as goal

pub returns : goal.returns
returns c s around t scope = sort_is s scope around t

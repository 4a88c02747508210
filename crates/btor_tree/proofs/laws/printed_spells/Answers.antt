use Rattle.btor_tree.proofs.Printed.{printed_spells}
use Rattle.btor_tree.proofs.laws.printed_spells.Goals as goal

pub returns : goal.returns
returns c = printed_spells

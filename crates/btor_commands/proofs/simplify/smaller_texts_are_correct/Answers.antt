use Rattle.btor_commands.proofs.Smaller.{stands}
use Rattle.btor_commands.proofs.simplify.smaller_texts_are_correct.Goals as goal

pub returns : goal.returns
returns c = stands c.lists_get_smaller.ensures

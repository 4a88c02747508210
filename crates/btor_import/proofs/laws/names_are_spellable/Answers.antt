use Rattle.btor_import.proofs.SpellableNames.{names_spellable}
use Rattle.btor_import.proofs.laws.names_are_spellable.Goals as goal

pub returns : goal.returns
returns c = names_spellable

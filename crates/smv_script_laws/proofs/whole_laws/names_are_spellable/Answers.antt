use Rattle.smv_script_laws.proofs.SpellableNames.{names_are_spellable_law}
use Rattle.smv_script_laws.proofs.whole_laws.names_are_spellable.Goals as goal

pub returns : goal.returns
returns c = names_are_spellable_law

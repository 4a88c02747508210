use Rattle.smv_accepted.proofs.ItemNames.{symbols_are_words_law}
use Rattle.smv_accepted.proofs.name_laws.symbols_are_words.Goals as goal

pub returns : goal.returns
returns c = symbols_are_words_law

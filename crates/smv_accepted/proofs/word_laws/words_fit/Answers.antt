use Rattle.smv_accepted.proofs.Literals.{words_fit_law}
use Rattle.smv_accepted.proofs.word_laws.words_fit.Goals as goal

pub returns : goal.returns
returns c = words_fit_law

use Rattle.btor_import_laws.proofs.Traces.{traces_have_words_law}
use Rattle.btor_import_laws.proofs.laws.traces_have_words.Goals as goal

pub returns : goal.returns
returns c = traces_have_words_law

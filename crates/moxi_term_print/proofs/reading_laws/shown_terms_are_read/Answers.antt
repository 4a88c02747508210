use Rattle.moxi_term_print.proofs.StandingRead.{term_read}
use Rattle.moxi_term_print.proofs.reading_laws.shown_terms_are_read.Goals as goal

pub returns : goal.returns
returns c = term_read

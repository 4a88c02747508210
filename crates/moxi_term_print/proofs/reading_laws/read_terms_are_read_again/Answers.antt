use Rattle.moxi_term_print.proofs.StandingAgain.{read_again}
use Rattle.moxi_term_print.proofs.reading_laws.read_terms_are_read_again.Goals as goal

pub returns : goal.returns
returns c = read_again

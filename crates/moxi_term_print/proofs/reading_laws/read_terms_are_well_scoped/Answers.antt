use Rattle.moxi_term_print.proofs.StandingStand.{read_stands}
use Rattle.moxi_term_print.proofs.reading_laws.read_terms_are_well_scoped.Goals as goal

pub returns : goal.returns
returns c ctx bounds vars ss f known within holds = read_stands ctx vars known bounds ss f within holds

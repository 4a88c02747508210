use Rattle.moxi_term_print.proofs.StandingSorts.{sort_read, sort_stands}
use Rattle.moxi_term_print.proofs.reading_laws.shown_sorts_are_read.Goals as goal

pub returns : goal.returns
returns c = record { read = sort_read; stand = sort_stands }

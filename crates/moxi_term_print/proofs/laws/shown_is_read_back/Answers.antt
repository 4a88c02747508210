use Rattle.moxi_term_print.proofs.ReadBack.{read_back}
use Rattle.moxi_term_print.proofs.laws.shown_is_read_back.Goals as goal

pub returns : goal.returns
returns c = read_back c.written_forms_read_back.ensures

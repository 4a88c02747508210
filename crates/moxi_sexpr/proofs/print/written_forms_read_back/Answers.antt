use Rattle.moxi_sexpr.proofs.Again.{written_back}
use Rattle.moxi_sexpr.proofs.print.written_forms_read_back.Goals as goal

pub returns : goal.returns
returns c = written_back

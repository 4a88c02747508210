use Rattle.moxi_sexpr.proofs.Leading.{read_from, answered_from}
use Rattle.moxi_sexpr.proofs.read.read_forms.Goals as goal

pub returns-clause-read : goal.returns-clause-read
returns-clause-read c = read_from c.args.text.now _ c.forms_of.ensures.spelled c.forms_of.ensures.refused

pub returns-clause-answered : goal.returns-clause-answered
returns-clause-answered c = answered_from c.args.text.now _ c.forms_of.ensures.spelled c.forms_of.ensures.refused

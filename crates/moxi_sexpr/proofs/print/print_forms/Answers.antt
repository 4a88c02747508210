use Rattle.moxi_sexpr.specs.Tree.{plain_forms}
use Rattle.moxi_sexpr.proofs.Again.{reads_back_from}
use Rattle.moxi_sexpr.proofs.print.print_forms.Goals as goal

pub returns-clause-reads_back : goal.returns-clause-reads_back
returns-clause-reads_back c = reads_back_from _ (plain_forms c.args.forms.now.items) c.text_of.ensures

use Rattle.smv_text.specs.View.{plain_source}
use Rattle.smv_print.proofs.PrintedAgain.{printed_back}
use Rattle.smv_print.proofs.printing.print.Goals as goal

pub returns-clause-again : goal.returns-clause-again
returns-clause-again c = printed_back (plain_source c.args.source.now) c.printed_is_read.ensures c.source_text.result c.source_text.ensures

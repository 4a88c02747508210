use Rattle.smv_trace.proofs.Told.{printed_again}
use Rattle.smv_trace.proofs.print.print_trace.Goals as goal

pub returns-clause-again : goal.returns-clause-again
returns-clause-again c = printed_again c.args.flat.now c.is_of_model.ensures c.args.j c.args.run.now c.print_trace.result c.print_trace.ensures

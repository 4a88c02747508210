use Rattle.moxi_trace.proofs.Printed.{printed_again}
use Rattle.moxi_trace.proofs.print.print_response.Goals as goal

pub returns-clause-again : goal.returns-clause-again
returns-clause-again c = printed_again c.args.declarations.now c.args.q c.args.steps.now c.response_text.result c.response_text.ensures

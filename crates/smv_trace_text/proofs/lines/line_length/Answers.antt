use Rattle.smv_trace_text.proofs.FirstBytes.{first_found, none_found}
use Rattle.smv_trace_text.proofs.lines.line_length.Goals as goal

pub returns-in-Some-clause-value : goal.returns-in-Some-clause-value
returns-in-Some-clause-value c = first_found 10 c.args.text.now c.in-Some.count c.in-Some.ensures.0 c.in-Some.ensures.1

pub returns-in-None-clause-value : goal.returns-in-None-clause-value
returns-in-None-clause-value c = none_found 10 c.args.text.now c.in-None.ensures

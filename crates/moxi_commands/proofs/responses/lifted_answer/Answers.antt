use Rattle.std.proofs.Common.{rules}
use Rattle.moxi_scripts.specs.ScriptView.{plain_script}
use Rattle.moxi_commands.proofs.Moxi.{answered, query_there, stated}
use Rattle.moxi_commands.proofs.responses.lifted_answer.Goals as goal

pub print_response-requires-clause-query : goal.print_response-requires-clause-query
print_response-requires-clause-query c = query_there (plain_script c.args.script.now) c.args.chain.now c.args.witness.now.bad c.in-Ok.trace c.requires.chain c.in-Ok.ensures.meets

pub print_response-requires-clause-trace : goal.print_response-requires-clause-trace
print_response-requires-clause-trace c = stated c.args.chain.now c.system-system.result.now c.in-Ok.trace c.system-system.ensures c.in-Ok.ensures.some c.in-Ok.ensures.fits

pub returns-in_ok-text-in-Ok-clause-answer : goal.returns-in_ok-text-in-Ok-clause-answer
returns-in_ok-text-in-Ok-clause-answer c =
    answered (plain_script c.args.script.now) c.args.chain.now c.args.witness.now c.in-Ok.trace c.in_ok-text-in-Ok.text c.requires.chain c.in-Ok.ensures.accepted c.in-Ok.ensures.exact c.in_ok-text-in-Ok.ensures.text

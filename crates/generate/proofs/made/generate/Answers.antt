use Rattle.generate.proofs.Answering.{of_form}
use Rattle.generate.proofs.made.generate.Goals as goal

pub returns-in-Ok-clause-answer : goal.returns-in-Ok-clause-answer
returns-in-Ok-clause-answer c = of_form c.args.n c.in-Ok.chain c.chain_answer.result c.in-Ok.ensures.form c.chain_answer.ensures.answer

use Rattle.btor_judge.proofs.Ending.{one_answer}
use Rattle.btor_judge.proofs.judge.Judge.end.Goals as goal

pub answer-requires : goal.answer-requires
answer-requires c = (c.args.nodes.now, c.requires)

pub answer-requires-2 : goal.answer-requires-2
answer-requires-2 c = (c.args.nodes.now, (c.requires.0, c.close.ensures.represents c.requires.0 c.requires.1))

pub returns-then-self-clause-answers : goal.returns-then-self-clause-answers
returns-then-self-clause-answers c = λ text h. c.answer.ensures c.args.nodes.now text c.if-self.true h

pub returns-then-self-clause-only : goal.returns-then-self-clause-only
returns-then-self-clause-only c = λ text other h a. one_answer c.args.nodes.now text c.answer.result other c.are_well_formed.ensures (c.answer.ensures c.args.nodes.now text c.if-self.true h) a

pub returns-clause-answers : goal.returns-clause-answers
returns-clause-answers c = λ text h. c.answer-2.ensures c.args.nodes.now text c.close.ensures.ended (c.close.ensures.represents text h)

pub returns-clause-only : goal.returns-clause-only
returns-clause-only c = λ text other h a. one_answer c.args.nodes.now text c.answer-2.result other c.are_well_formed.ensures (c.answer-2.ensures c.args.nodes.now text c.close.ensures.ended (c.close.ensures.represents text h)) a

pub returns-clause-some : goal.returns-clause-some
returns-clause-some c = (c.requires.0, c.close.ensures.represents c.requires.0 c.requires.1)

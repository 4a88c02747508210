use Rattle.std.proofs.Common.{subst, arith}
use Rattle.btor_judge.specs.Judging.{RepresentsAt}
use Rattle.btor_judge.proofs.Ending.{judged_answer, refused_answer, other_answer, few_lines}
use Rattle.btor_judge.proofs.judge.Judge.answer.Goals as goal

pub overflow_add-result : goal.overflow_add-result
overflow_add-result c =
    let few = few_lines c.requires.0 c.args.self.now c.requires.1.0 c.in-Refused.kind (subst (RepresentsAt c.requires.0 c.args.self.now c.requires.1.0) c.in-Refused.is c.requires.1.1) in
    omega (arith, few)

pub returns-in-Done : goal.returns-in-Done
returns-in-Done c = λ lines text ended h.
    judged_answer lines c.args.self.now text c.bad.result c.count.result c.verdict.result c.bad.ensures c.count.ensures c.verdict.ensures (subst (RepresentsAt lines c.args.self.now text) c.in-Done.is h)

pub returns-in-Refused : goal.returns-in-Refused
returns-in-Refused c = λ lines text ended h. refused_answer lines c.args.self.now text c.in-Refused.kind (subst (RepresentsAt lines c.args.self.now text) c.in-Refused.is h)

pub returns-in_default : goal.returns-in_default
returns-in_default c = λ lines text ended h. other_answer lines c.args.self.now text c.args.self.now.stage c.in_default.not-Done c.in_default.not-Refused ended h

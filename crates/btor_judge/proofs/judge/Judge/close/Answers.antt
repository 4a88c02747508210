use Rattle.std.proofs.Common.{subst}
use Rattle.btor_judge.specs.Judging.{RepresentsAt}
use Rattle.btor_judge.proofs.Ending.{closes}
use Rattle.btor_judge.proofs.judge.Judge.close.Goals as goal

pub close_line-requires : goal.close_line-requires
close_line-requires c = (c.requires.some.0, subst (RepresentsAt c.args.nodes.now c.args.self.now c.requires.some.0) c.in-Going.is c.requires.some.1)

pub returns-in-Going-clause-represents : goal.returns-in-Going-clause-represents
returns-in-Going-clause-represents c = λ text h. c.close_line.ensures text (subst (RepresentsAt c.args.nodes.now c.args.self.now text) c.in-Going.is h)

pub returns-in_default-clause-represents : goal.returns-in_default-clause-represents
returns-in_default-clause-represents c = λ text h. closes c.args.nodes.now c.args.self.now text c.args.self.now.stage c.requires.unended c.in_default.not-Going h

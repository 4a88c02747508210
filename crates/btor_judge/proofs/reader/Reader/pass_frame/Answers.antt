use Rattle.std.proofs.Common.{ap, ◌+◌}
use Rattle.btor_judge.specs.declared.reader.Reader.{Reader}
use Rattle.btor_judge.proofs.reader.Reader.pass_frame.Goals as goal

pub returns-clause-rest : goal.returns-clause-rest
returns-clause-rest c = ap (λ (x : Reader). record x { count = x.count + 1 }) c.judge_frame.ensures.rest

pub returns-clause-judged : goal.returns-clause-judged
returns-clause-judged c = c.judge_frame.ensures.judged

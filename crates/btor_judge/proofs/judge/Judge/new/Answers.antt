use Rattle.std.proofs.Common.{refl}
use Rattle.btor_judge.proofs.Pieces.{begins}
use Rattle.btor_judge.proofs.judge.Judge.new.Goals as goal

pub returns-clause-represents : goal.returns-clause-represents
returns-clause-represents c = begins c.args.nodes.now _ refl refl refl refl refl c.new-2.ensures c.in_ok-new.ensures

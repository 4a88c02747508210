use Rattle.std.proofs.Common.{◌++◌, ◌∷◌, [], subst, append_assoc}
use Rattle.btor_judge.specs.Judging.{Represents}
use Rattle.btor_judge.proofs.judge.Judge.take_line.Goals as goal

pub take-requires-clause-some : goal.take-requires-clause-some
take-requires-clause-some c = (c.requires.some.0 ++ c.args.raw.now, c.take_bytes.ensures.represents c.requires.some.0 c.requires.some.1)

pub returns-else-begins_line-clause-represents : goal.returns-else-begins_line-clause-represents
returns-else-begins_line-clause-represents c = λ text h.
    let raw = c.args.raw.now in
    subst (Represents c.args.nodes.now c.take.new.self) (append_assoc text raw (10 ∷ [])) (c.take.ensures.represents (text ++ raw) (c.take_bytes.ensures.represents text h))

use Rattle.std.proofs.Common.{sym, subst, ◌++◌, ◌∷◌, []}
use Rattle.btor_judge.specs.declared.line.Line.{Line}
use Rattle.btor_judge.specs.Scanning.{line_next}
use Rattle.btor_judge.specs.Judging.{counted, RepresentsAt, Represents}
use Rattle.btor_judge.proofs.Pieces.{goes_on}
use Rattle.btor_judge.proofs.judge.Judge.read.Goals as goal

pub returns-then-b-eq10-clause-represents : goal.returns-then-b-eq10-clause-represents
returns-then-b-eq10-clause-represents c = λ text h lt. subst (λ b. Represents c.args.nodes.now (counted c.end_line.new.self) (text ++ b ∷ [])) (sym c.if-b-eq10.true) (c.end_line.ensures.represents text h lt)

pub returns-else-b-eq10-clause-represents : goal.returns-else-b-eq10-clause-represents
returns-else-b-eq10-clause-represents c = λ text h lt.
    let judge = c.args.self.now in
    subst (λ (l : Line). Represents c.args.nodes.now (counted (record judge { line = l })) (text ++ c.args.b ∷ [])) (sym c.put.ensures)
    (subst (RepresentsAt c.args.nodes.now (counted (record judge { line = line_next judge.line c.args.b })) (text ++ c.args.b ∷ [])) (sym h.going) (goes_on c.args.nodes.now judge text c.args.b c.if-b-eq10.false lt h))

use Rattle.std.proofs.Common.{List, ℕ, subst}
use Rattle.smv_numbered.specs.Stated.{Declarations}
use Rattle.smv_trace.specs.Reading.{ended, begun}
use Rattle.smv_trace.specs.Numbering.{reading_of}
use Rattle.smv_trace.proofs.reader.Reader.heading_line.Goals as goal
use Rattle.text_core.specs.Answers.{Leaves}
use Rattle.text_core.proofs.AnswerLaws.{first_refuses, then_leaves}

pub returns-in-Ok-clause-step : goal.returns-in-Ok-clause-step
returns-in-Ok-clause-step c =
    let d = c.args.self.now.table in
    let r = reading_of c.args.self.now in
    let p : List ℕ × List ℕ = (c.args.first.now, c.args.second.now) in
    let q = reading_of c.end.new.self in
    let begins = subst (λ (t : Declarations). Leaves (begun t c.args.next c.args.at p q) (reading_of c.begin.new.self) c.begin.result) c.in-Ok.ensures.table c.begin.ensures.step in
    then_leaves (ended d c.args.next r.heading r) (begun d c.args.next c.args.at p) q (reading_of c.begin.new.self) c.begin.result c.in-Ok.ensures.step begins

pub returns-in-Err-clause-step : goal.returns-in-Err-clause-step
returns-in-Err-clause-step c =
    let d = c.args.self.now.table in
    let r = reading_of c.args.self.now in
    let q = reading_of c.end.new.self in
    first_refuses (Unit {0}) (ended d c.args.next r.heading r) (begun d c.args.next c.args.at (c.args.first.now, c.args.second.now)) q q c.in-Err.end c.in-Err.ensures.step

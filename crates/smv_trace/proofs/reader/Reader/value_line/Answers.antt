use Rattle.std.proofs.Common.{Option, ℕ, subst}
use Rattle.smv_trace.specs.Reading.{placed_line, value_line}
use Rattle.smv_trace.specs.Numbering.{Numbering, reading_of}
use Rattle.smv_trace.specs.Answer.{Takes}
use Rattle.smv_trace.proofs.reader.Reader.value_line.Goals as goal

-- what was looked up isn't seen in the reader
pub returns-in-Some-clause-step : goal.returns-in-Some-clause-step
returns-in-Some-clause-step c = λ at.
    let r : Numbering = record { table = c.self.inside.table.now; heading = c.self.inside.heading; place = c.self.inside.place; first = c.self.inside.first; changes = c.self.inside.changes; ends = c.self.inside.ends } in
    let placed = subst (λ (o : Option ℕ). Takes at (placed_line r.table c.args.heading at c.args.text.now (reading_of r) o) (reading_of c.item_line.new.self) c.item_line.result) c.in-Some.ensures.place (c.item_line.ensures.step at) in
    subst (λ (n : Numbering). Takes at (value_line n.table c.args.heading at (c.args.name.now, c.args.text.now) (reading_of n)) (reading_of c.item_line.new.self) c.item_line.result) c.self.view_is placed

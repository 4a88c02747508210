use Rattle.std.proofs.Common.{Option, List, ℕ, subst}
use Rattle.smv_trace.specs.Reading.{value_step}
use Rattle.smv_trace.specs.Numbering.{reading_of}
use Rattle.smv_trace.specs.Answer.{Takes}
use Rattle.smv_trace.proofs.reader.Reader.value_step.Goals as goal

pub returns-in-Some-clause-step : goal.returns-in-Some-clause-step
returns-in-Some-clause-step c = λ at.
    subst (λ (o : Option (List ℕ × List ℕ)). Takes at (value_step c.args.self.now.table c.args.heading at (reading_of c.args.self.now) o) (reading_of c.value_line.new.self) c.value_line.result) c.in-Some.ensures (c.value_line.ensures.step at)

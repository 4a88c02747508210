use Rattle.std.proofs.Common.{Result, sym, ◌∙◌, subst}
use Rattle.std.specs.Prelude.{codes}
use Rattle.text_core.specs.declared.place.Refusal.{Refusal}
use Rattle.smv_trace.specs.Reading.{Reading}
use Rattle.smv_trace.specs.Numbering.{reading_of}
use Rattle.smv_trace.proofs.Steps.{passed_step, marked_step, other_line}
use Rattle.smv_trace.proofs.reader.Reader.take_line.Goals as goal
use Rattle.text_core.specs.Answers.{Leaves}

pub returns-then-is_passed-clause-step : goal.returns-then-is_passed-clause-step
returns-then-is_passed-clause-step c = passed_step c.args.self.now.table c.args.at c.args.line.now (reading_of c.args.self.now) (sym c.is_passed.ensures ∙ c.if-is_passed.true)

pub returns-then-begins_with_dash-clause-step : goal.returns-then-begins_with_dash-clause-step
returns-then-begins_with_dash-clause-step c =
    let e = marked_step c.args.self.now.table c.args.at c.args.line.now (reading_of c.args.self.now) (sym c.is_passed.ensures ∙ c.if-is_passed.false) in
    subst (λ (x : Result Reading Refusal). Leaves x (reading_of c.marked_line.new.self) c.marked_line.result) (sym e) c.marked_line.ensures.step

pub returns-else-begins_with_dash-clause-step : goal.returns-else-begins_with_dash-clause-step
returns-else-begins_with_dash-clause-step c =
    let plain = c.begins_with_dash.ensures.plain c.if-begins_with_dash.false (codes "State:") in
    let e = other_line c.args.self.now.table c.args.at c.args.line.now (reading_of c.args.self.now) (sym c.is_passed.ensures ∙ c.if-is_passed.false) plain in
    subst (λ (x : Result Reading Refusal). Leaves x (reading_of c.plain_line.new.self) c.plain_line.result) (sym e) c.plain_line.ensures.step

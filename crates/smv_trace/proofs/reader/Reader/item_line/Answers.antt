use Rattle.std.proofs.Common.{Result, Some, sym, ◌∙◌, subst}
use Rattle.text_core.specs.declared.place.Refusal.{Refusal}
use Rattle.smv_items.specs.FlatItemView.{item_plain}
use Rattle.smv_numbered.specs.Stated.{Declarations}
use Rattle.smv_trace.specs.Reading.{Reading, placed_line}
use Rattle.smv_trace.specs.Numbering.{reading_of}
use Rattle.smv_trace.specs.Answer.{Takes}
use Rattle.smv_trace.proofs.Steps.{item_taken}
use Rattle.smv_trace.proofs.reader.Reader.item_line.Goals as goal

pub returns-in-Ok-clause-step : goal.returns-in-Ok-clause-step
returns-in-Ok-clause-step c = λ at.
    let d = c.table-table.result.now in
    let r = reading_of c.args.self.now in
    let new = reading_of c.state_value.new.self in
    let e = item_taken d c.args.heading at c.args.text.now c.args.k r (item_plain c.item-item.result.now) c.in-Ok.value c.item-item.ensures (sym c.is_define.ensures ∙ c.if-is_define.false)
    (sym c.picks.ensures ∙ c.if-not-picks.false) c.in-Ok.ensures in
    subst (λ (t : Declarations). Takes at (placed_line t c.args.heading at c.args.text.now r (Some c.args.k)) new c.state_value.result) c.table-table.ensures
    (subst (λ (x : Result Reading Refusal). Takes at x new c.state_value.result) (sym e) (c.state_value.ensures.step at))

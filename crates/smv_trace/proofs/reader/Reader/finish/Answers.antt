use Rattle.std.proofs.Common.{Err, sym, ap, ◌∙◌, subst}
use Rattle.text_core.specs.declared.end.End.TheVariants.{Bad}
use Rattle.text_core.specs.declared.place.Place.{Place}
use Rattle.text_core.specs.declared.place.Kind.TheVariants.{Y}
use Rattle.text_core.specs.Places.{start, after}
use Rattle.text_core.specs.declared.end.End.{End}
use Rattle.smv_trace.specs.Reading.{finished}
use Rattle.smv_trace.specs.Numbering.{reading_of}
use Rattle.smv_trace.specs.Answer.{Finishes}
use Rattle.smv_trace.proofs.Steps.{finish_none, finish_some}
use Rattle.smv_trace.proofs.reader.Reader.finish.Goals as goal

pub returns-then-not-has_begun-clause-step : goal.returns-then-not-has_begun-clause-step
returns-then-not-has_begun-clause-step c =
    let d = c.args.self.now.table in
    let r = reading_of c.args.self.now in
    let end = after start c.args.text.now in
    let none = finish_none d end r (sym c.if-not-has_begun.ensures) in
    subst (λ (x : End). Finishes {B = Unit {0}} (finished d end r) r (Err x)) (sym (c.refused.ensures ∙ ap (λ (p : Place). Bad (record { kind = Y 1; place = p })) c.after.ensures)) none

pub returns-clause-step : goal.returns-clause-step
returns-clause-step c =
    let r = c.args.self.now in
    finish_some r.table (after start c.args.text.now) (reading_of r) (reading_of c.end.new.self) c.end.result (sym c.if-not-has_begun.ensures) c.end.ensures.step

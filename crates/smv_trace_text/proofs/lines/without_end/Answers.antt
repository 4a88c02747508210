use Rattle.std.proofs.Common.{sym, ap, ◌∙◌}
use Rattle.smv_trace_text.specs.Lines.{without_end}
use Rattle.smv_trace_text.proofs.LineEnds.{end_off, end_kept}
use Rattle.smv_trace_text.proofs.lines.without_end.Goals as goal

pub returns-then-not-is_blank : goal.returns-then-not-is_blank
returns-then-not-is_blank c =
    c.in-Some.ensures.cases.0 ∙ sym (end_kept c.in-Some.front.now c.in-Some.b.now (sym c.if-not-is_blank.ensures)) ∙ sym (ap without_end c.in-Some.ensures.cases.0)
    ∙ c.loop-b.invariant

pub loop-b-preserved : goal.loop-b-preserved
loop-b-preserved c =
    sym (end_off c.in-Some.front.now c.in-Some.b.now (sym c.if-not-is_blank.ensures)) ∙ sym (ap without_end c.in-Some.ensures.cases.0) ∙ c.loop-b.invariant

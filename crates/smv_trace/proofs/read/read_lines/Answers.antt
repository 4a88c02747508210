use Rattle.std.proofs.Common.{◌≡◌, [], ◌∷◌, length, Result, Err, sym, ap, ◌∙◌, subst, arith}
use Rattle.std.proofs.lemmas.List.{nil_from_length}
use Rattle.text_core.specs.declared.place.Place.{Place}
use Rattle.text_core.specs.declared.place.Refusal.{Refusal}
use Rattle.text_core.specs.Places.{start, after}
use Rattle.smv_meaning.specs.declared.value.Run.{Run}
use Rattle.smv_trace_text.specs.Lines.{lines_of, behind_line}
use Rattle.smv_trace.specs.Reading.{finished}
use Rattle.smv_numbered.specs.Stated.{Declarations}
use Rattle.smv_trace.specs.Numbering.{reading_of}
use Rattle.smv_trace.specs.Texts.{lines_read}
use Rattle.smv_trace.specs.Answer.{Finishes}
use Rattle.smv_trace.proofs.LineLaws.{rest_lines, line_stops, line_last, line_more}
use Rattle.smv_trace.proofs.read.read_lines.Goals as goal

pub returns-in-Err-clause-step : goal.returns-in-Err-clause-step
returns-in-Err-clause-step c =
    let d = c.lines.reader.table in
    let end = after start c.args.text.now in
    let rest = c.lines.rest.now in
    let line = c.split_at.result.0.now in
    let marked = c.split_at.result.1.now in
    let lines = rest_lines rest line marked c.line_length.result c.line_length.ensures.value c.split_at.ensures.front c.split_at.ensures.back in
    let stops = line_stops (Unit {0}) d end c.lines.at rest line marked c.trim.result.now (reading_of c.lines.reader) (reading_of c.take_line.new.self) (reading_of c.take_line.new.self) c.in-Err.end lines c.trim.ensures c.in-Err.ensures.step in
    subst (λ (x : Result Run Refusal). Finishes {B = Unit {0}} x (reading_of c.take_line.new.self) (Err c.in-Err.end)) c.lines.invariant.same stops

pub returns-in_default-clause-step : goal.returns-in_default-clause-step
returns-in_default-clause-step c =
    let d = c.lines.reader.table in
    let finished = subst (λ (t : Declarations). Finishes (finished t (after start c.args.text.now) (reading_of c.take_line.new.self)) (reading_of c.finish.new.self) c.finish.result) c.in-Ok.ensures.table c.finish.ensures.step in
    let rest = c.lines.rest.now in
    let line = c.split_at.result.0.now in
    let marked = c.split_at.result.1.now in
    let lines = rest_lines rest line marked c.line_length.result c.line_length.ensures.value c.split_at.ensures.front c.split_at.ensures.back in
    let none : marked ≡ [] = nil_from_length marked c.in_default.ensures.cases in
    let last = line_last d (after start c.args.text.now) c.lines.at rest line marked c.trim.result.now (reading_of c.lines.reader) (reading_of c.take_line.new.self) lines c.trim.ensures none c.in-Ok.ensures.step in
    let e = sym c.lines.invariant.same ∙ last in
    subst (λ (x : Result Run Refusal). Finishes x (reading_of c.finish.new.self) c.finish.result) (sym e) finished

pub lines-preserved : goal.lines-preserved
lines-preserved c =
    let d = c.lines.reader.table in
    let end = after start c.args.text.now in
    let rest = c.lines.rest.now in
    let line = c.split_at.result.0.now in
    let marked = c.split_at.result.1.now in
    let more = c.in-Some.more.now in
    let lines = rest_lines rest line marked c.line_length.result c.line_length.ensures.value c.split_at.ensures.front c.split_at.ensures.back in
    let some : marked ≡ c.in-Some.field-0-0.now ∷ more = c.in-Some.ensures.cases.0 in
    let step = line_more d end c.lines.at rest line marked c.trim.result.now more c.in-Some.field-0-0.now (reading_of c.lines.reader) (reading_of c.take_line.new.self) lines c.trim.ensures some c.in-Ok.ensures.step in
    let at : c.behind_line-at.result ≡ behind_line c.lines.at line = c.behind_line-at.ensures in
    record {
      table = c.in-Ok.ensures.table ∙ c.lines.invariant.table;
      same = ap (λ (t : Declarations). lines_read t end c.behind_line-at.result (lines_of more) (reading_of c.take_line.new.self)) c.in-Ok.ensures.table
          ∙ ap (λ (p : Place). lines_read d end p (lines_of more) (reading_of c.take_line.new.self)) at ∙ sym step ∙ c.lines.invariant.same;
      line = omega (arith, ap (λ (p : Place). p.line) at, c.lines.invariant.line, c.split_at.ensures.back_len, ap length some);
      offset = omega (arith, ap (λ (p : Place). p.offset) at, c.lines.invariant.offset, c.split_at.ensures.front_len, c.split_at.ensures.back_len, ap length some);
    }

use Rattle.std.proofs.Common.{◌≡◌, ◌+◌, ℕ, true, false, List, [], ◌∷◌, length, refl, sym, ap, ◌∙◌, subst, arith}
use Rattle.std.proofs.lemmas.List.{nil_from_length}
use Rattle.text_core.specs.declared.place.Kind.TheVariants.{X}
use Rattle.text_core.specs.declared.end.End.{End}
use Rattle.btor_tree.specs.Parts.{raw_lines}
use Rattle.btor_tree.proofs.Fronts.{split_line, rest_lines}
use Rattle.btor_tree.proofs.Places.{behind_line, place_behind}
use Rattle.btor_witness.specs.Bytes.{line_parts}
use Rattle.btor_witness.specs.Sizes.{sizes_of}
use Rattle.btor_witness.specs.Reading.{done}
use Rattle.btor_witness.specs.Texts.{Reads, Refuses, unended}
use Rattle.btor_witness.specs.Answer.{IsRefusedLine}
use Rattle.btor_witness.specs.laws.Laws.{takes_at, failed_at, reads_on, ends_here, refused_here}
use Rattle.btor_witness.proofs.read.read_lines.Goals as goal

pub returns-then-ended-clause-spelled : goal.returns-then-ended-clause-spelled
returns-then-ended-clause-spelled c =
    let sizes = sizes_of c.args.nodes.now in
    let reading = c.lines.reader.reading in
    let raw = c.split_at.result.0.now in
    let back = c.split_at.result.1.now in
    let w = c.witness.result in
    let lines = rest_lines c.lines.rest.now raw back c.line_length.result c.line_length.ensures.value c.split_at.ensures.front c.split_at.ensures.back in
    let next = takes_at c.lines.reader.sizes sizes reading c.take_line.new.self.reading (line_parts raw) c.in-Ok.ended true c.lines.invariant.sizes c.if-ended.true c.in-Ok.ensures.next in
    let reads = ends_here sizes reading raw back w (next ∙ ap done (sym c.witness.ensures)) in
    c.lines.invariant.reads w (subst (λ (x : List (List ℕ)). Reads sizes reading x w) (sym lines) reads)

pub returns-in-Bad-clause-refused : goal.returns-in-Bad-clause-refused
returns-in-Bad-clause-refused c =
    let sizes = sizes_of c.args.nodes.now in
    let reading = c.lines.reader.reading in
    let raw = c.split_at.result.0.now in
    let back = c.split_at.result.1.now in
    let k = c.in-Bad.kind in
    let lines = rest_lines c.lines.rest.now raw back c.line_length.result c.line_length.ensures.value c.split_at.ensures.front c.split_at.ensures.back in
    let next = failed_at c.lines.reader.sizes sizes reading c.take_line.new.self.reading (line_parts raw) c.in-Err.end k c.lines.invariant.sizes c.in-Bad.is c.in-Err.ensures.next in
    let stops = refused_here c.lines.number sizes reading raw back k next in
    let refuses = c.lines.invariant.refuses k (c.lines.number + 1) (subst (λ (x : List (List ℕ)). Refuses c.lines.number sizes reading x k (c.lines.number + 1)) (sym lines) stops) in
    subst (λ (x : End). IsRefusedLine sizes c.args.text.now x) (sym c.refused.ensures)
    (refuses, place_behind c.args.text.now c.lines.rest.now c.lines.number _ _ refl c.lines.invariant.starts refl)

pub returns-in_default-clause-refused : goal.returns-in_default-clause-refused
returns-in_default-clause-refused c =
    let sizes = sizes_of c.args.nodes.now in
    let reading = c.lines.reader.reading in
    let new = c.take_line.new.self.reading in
    let raw = c.split_at.result.0.now in
    let back = c.split_at.result.1.now in
    let none : back ≡ [] = nil_from_length back c.in_default.ensures.cases in
    let lines = rest_lines c.lines.rest.now raw back c.line_length.result c.line_length.ensures.value c.split_at.ensures.front c.split_at.ensures.back ∙ ap (split_line raw) none in
    let takes = takes_at c.lines.reader.sizes sizes reading new (line_parts raw) c.in-Ok.ended false c.lines.invariant.sizes c.if-ended.false c.in-Ok.ensures.next in
    let stops = (reads_on c.lines.number sizes reading new raw [] takes).1 (X 6) (c.lines.number + 1) unended in
    let refuses = c.lines.invariant.refuses (X 6) (c.lines.number + 1) (subst (λ (x : List (List ℕ)). Refuses c.lines.number sizes reading x (X 6) (c.lines.number + 1)) (sym lines) stops) in
    subst (λ (x : End). IsRefusedLine sizes c.args.text.now x) (sym c.refused-in_default.ensures)
    (refuses, place_behind c.args.text.now c.lines.rest.now c.lines.number _ _ refl c.lines.invariant.starts refl)

pub lines-preserved : goal.lines-preserved
lines-preserved c =
    let sizes = sizes_of c.args.nodes.now in
    let reading = c.lines.reader.reading in
    let new = c.take_line.new.self.reading in
    let raw = c.split_at.result.0.now in
    let back = c.split_at.result.1.now in
    let last = c.in-Some.last.now in
    let more : back ≡ c.in-Some.field-0-0.now ∷ last = c.in-Some.ensures.cases.0 in
    let lines = rest_lines c.lines.rest.now raw back c.line_length.result c.line_length.ensures.value c.split_at.ensures.front c.split_at.ensures.back ∙ ap (split_line raw) more in
    let takes = takes_at c.lines.reader.sizes sizes reading new (line_parts raw) c.in-Ok.ended false c.lines.invariant.sizes c.if-ended.false c.in-Ok.ensures.next in
    let on = reads_on c.lines.number sizes reading new raw (raw_lines last) takes in
    record {
      reads = λ w h. c.lines.invariant.reads w (subst (λ (x : List (List ℕ)). Reads sizes reading x w) (sym lines) (on.0 w h));
      refuses = λ k at h. c.lines.invariant.refuses k at (subst (λ (x : List (List ℕ)). Refuses c.lines.number sizes reading x k at) (sym lines) (on.1 k at h));
      sizes = c.take_line.ensures.sizes ∙ c.lines.invariant.sizes;
      starts = behind_line c.args.text.now c.lines.rest.now raw last c.lines.number _ refl lines (omega (arith, c.split_at.ensures.front_len, c.split_at.ensures.back_len, c.line_length.ensures.within, ap length more)) (omega (arith, c.lines.invariant.many)) c.lines.invariant.starts;
      many = omega (arith, c.lines.invariant.many, c.split_at.ensures.back_len, ap length more);
    }

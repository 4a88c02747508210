use Rattle.std.proofs.Common.{◌≡◌, ◌-◌, [], ◌∷◌, length, refl, sym, ap, ◌∙◌, subst, arith}
use Rattle.std.proofs.lemmas.List.{nil_from_length}
use Rattle.btor_tree.specs.Parts.{Parts, raw_lines}
use Rattle.text_core.specs.declared.place.Refusal.{Refusal}
use Rattle.text_core.specs.declared.end.End.TheVariants.{Bad}
use Rattle.btor_tree.specs.Texts.{Reads, ends, Refuses, SpellsLines}
use Rattle.btor_tree.proofs.Fronts.{split_line, rest_lines}
use Rattle.btor_tree.proofs.Places.{behind_line, place_behind}
use Rattle.btor_text.specs.Seen.{seen_fault}
use Rattle.btor_text.specs.Answer.{IsRefused, kind_of}
use Rattle.btor_text.proofs.Laws.{refused_here, reads_on, faulty_end}
use Rattle.btor_text.proofs.read.nodes_of.Goals as goal

pub overflow_sub-offset : goal.overflow_sub-offset
overflow_sub-offset c = omega (arith, c.lines.invariant.many, c.lines.invariant.least)

pub returns-in-Err-Bad-clause-refused : goal.returns-in-Err-Bad-clause-refused
returns-in-Err-Bad-clause-refused c =
    let raw = c.split_at.result.0.now in
    let back = c.split_at.result.1.now in
    let k = seen_fault c.in-Err-Bad.fault in
    let lines = rest_lines c.lines.rest.now raw back c.line_length.result c.line_length.ensures.value c.split_at.ensures.front c.split_at.ensures.back in
    let stops = refused_here c.lines.number c.lines.progress raw back k (faulty_end _ _ c.in-Err-Bad.fault c.in-Err-Bad.ensures.fails c.in-Err-Bad.field-0-is) in
    let whole = c.lines.invariant.refuses k c.lines.number (subst (λ (x : Parts). Refuses c.lines.number c.lines.progress x k c.lines.number) (sym lines) stops) in
    let place = place_behind c.args.text.now c.lines.rest.now (c.lines.number - 1) c.lines.number _ (omega (arith, c.lines.invariant.least)) c.lines.invariant.starts refl in
    subst (λ (r : Refusal). IsRefused c.args.text.now (Bad r)) (sym c.refusal.ensures) (k, whole, ap (λ f. kind_of (seen_fault f)) c.in-Err-Bad.fault-is, place)

pub returns-in_default-clause-spelled : goal.returns-in_default-clause-spelled
returns-in_default-clause-spelled c =
    let raw = c.split_at.result.0.now in
    let back = c.split_at.result.1.now in
    let none : back ≡ [] = nil_from_length back c.in_default.ensures.cases in
    let lines = rest_lines c.lines.rest.now raw back c.line_length.result c.line_length.ensures.value c.split_at.ensures.front c.split_at.ensures.back ∙ ap (split_line raw) none in
    let all = c.in-Ok.taken in
    let on = reads_on c.lines.number c.lines.progress all raw [] c.in-Ok.ensures.takes in
    let whole = c.lines.invariant.reads all (subst (λ (x : Parts). Reads c.lines.progress x all) (sym lines) (on.0 all ends)) in
    subst (SpellsLines c.args.text.now) (sym c.done.ensures) whole

pub lines-preserved : goal.lines-preserved
lines-preserved c =
    let raw = c.split_at.result.0.now in
    let back = c.split_at.result.1.now in
    let last = c.in-Some.last.now in
    let more : back ≡ c.in-Some.field-0-0.now ∷ last = c.in-Some.ensures.cases.0 in
    let lines = rest_lines c.lines.rest.now raw back c.line_length.result c.line_length.ensures.value c.split_at.ensures.front c.split_at.ensures.back ∙ ap (split_line raw) more in
    let on = reads_on c.lines.number c.lines.progress c.in-Ok.taken raw (raw_lines last) c.in-Ok.ensures.takes in
    record {
      reads = λ all h. c.lines.invariant.reads all (subst (λ (x : Parts). Reads c.lines.progress x all) (sym lines) (on.0 all h));
      refuses = λ k at h. c.lines.invariant.refuses k at (subst (λ (x : Parts). Refuses c.lines.number c.lines.progress x k at) (sym lines) (on.1 k at h));
      starts = behind_line c.args.text.now c.lines.rest.now raw last (c.lines.number - 1) _ (omega (arith, c.lines.invariant.least)) lines (omega (arith, c.split_at.ensures.front_len, c.split_at.ensures.back_len, c.line_length.ensures.within, ap length more)) (omega (arith, c.lines.invariant.many, c.lines.invariant.least)) c.lines.invariant.starts;
      many = omega (arith, c.lines.invariant.many, c.split_at.ensures.back_len, ap length more);
      least = omega (arith, c.lines.invariant.least);
    }

use Rattle.std.proofs.Common.{◌≡◌, false, Some, None, sym, ap, ◌∙◌}
use Rattle.btor_tree.specs.Parts.{parts}
use Rattle.btor_witness.specs.Bytes.{line_parts}
use Rattle.btor_witness.specs.Shapes.{is_passed, shape_of}
use Rattle.btor_witness.proofs.Shaped.{shaped_read}
use Rattle.btor_judge.proofs.Turns.{passed_over, shaped, shapeless}
use Rattle.btor_judge.proofs.reader.Reader.take_whole.Goals as goal

pub returns-in-Some : goal.returns-in-Some
returns-in-Some c = λ r h.
    let ps = line_parts c.args.raw.now in
    let f : shape_of ps ≡ Some c.in-Some.shape = ap (λ l. shape_of (parts l)) (sym c.without_return-line.ensures) ∙ sym c.shape_of.ensures ∙ c.in-Some.is in
    shaped c.args.nodes.now c.step.new.self r ps c.in-Some.shape c.step.result (shaped_read ps c.in-Some.shape f) f (c.step.ensures r h)

pub returns-then-is_passed : goal.returns-then-is_passed
returns-then-is_passed c = λ r h.
    let ps = line_parts c.args.raw.now in
    passed_over c.args.nodes.now c.args.self.now r ps h.0 (ap (λ l. is_passed (parts l)) (sym c.without_return-line.ensures) ∙ sym c.is_passed.ensures ∙ c.if-is_passed.true)

pub returns-else-is_passed : goal.returns-else-is_passed
returns-else-is_passed c = λ r h.
    let ps = line_parts c.args.raw.now in
    let e : is_passed ps ≡ false = ap (λ l. is_passed (parts l)) (sym c.without_return-line.ensures) ∙ sym c.is_passed.ensures ∙ c.if-is_passed.false in
    let f : shape_of ps ≡ None = ap (λ l. shape_of (parts l)) (sym c.without_return-line.ensures) ∙ sym c.shape_of.ensures ∙ c.in-None.is in
    shapeless c.args.nodes.now r ps e f

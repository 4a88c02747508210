use Rattle.std.proofs.Common.{◌≡◌, true, false, Some, None, sym, ap, ◌∙◌, subst, refl, inr}
use Rattle.btor_tree.specs.Parts.{parts}
use Rattle.btor_witness.specs.Bytes.{line_parts}
use Rattle.btor_witness.specs.Shapes.{is_passed, shape_of}
use Rattle.btor_witness.specs.Reading.{Next}
use Rattle.btor_witness.specs.Answer.{Steps}
use Rattle.btor_witness.specs.laws.Laws.{at_passed, at_shape, taken}
use Rattle.btor_witness.proofs.Shaped.{shaped_read}
use Rattle.btor_witness.proofs.reader.Reader.take_line.Goals as goal

pub returns-in-Some-clause-next : goal.returns-in-Some-clause-next
returns-in-Some-clause-next c =
    let f : shape_of (line_parts c.args.raw.now) ≡ Some c.in-Some.shape = ap (λ l. shape_of (parts l)) (sym c.without_return-line.ensures) ∙ sym c.shape_of.ensures ∙ c.in-Some.is in
    let e : is_passed (line_parts c.args.raw.now) ≡ false = shaped_read (line_parts c.args.raw.now) c.in-Some.shape f in
    let next = at_shape c.args.self.now.sizes c.args.self.now.reading (line_parts c.args.raw.now) (Some c.in-Some.shape) e f in
    taken _ _ _ _ (subst (λ (x : Next). Steps x c.step.new.self.reading c.step.result) (sym next) c.step.ensures.next)

pub returns-then-is_passed-clause-next : goal.returns-then-is_passed-clause-next
returns-then-is_passed-clause-next c =
    let e : is_passed (line_parts c.args.raw.now) ≡ true = ap (λ l. is_passed (parts l)) (sym c.without_return-line.ensures) ∙ sym c.is_passed.ensures ∙ c.if-is_passed.true in
    inr (at_passed c.args.self.now.sizes c.args.self.now.reading (line_parts c.args.raw.now) e, refl)

pub returns-else-is_passed-clause-next : goal.returns-else-is_passed-clause-next
returns-else-is_passed-clause-next c =
    let e : is_passed (line_parts c.args.raw.now) ≡ false = ap (λ l. is_passed (parts l)) (sym c.without_return-line.ensures) ∙ sym c.is_passed.ensures ∙ c.if-is_passed.false in
    let f : shape_of (line_parts c.args.raw.now) ≡ None = ap (λ l. shape_of (parts l)) (sym c.without_return-line.ensures) ∙ sym c.shape_of.ensures ∙ c.in-None.is in
    at_shape c.args.self.now.sizes c.args.self.now.reading (line_parts c.args.raw.now) None e f

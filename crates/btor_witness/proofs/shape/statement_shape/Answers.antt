use Rattle.std.proofs.Common.{◌≡◌, ◌<◌, ◌++◌, ◌∷◌, Some, true, length, length-append, sym, ap, ◌∙◌, arith}
use Rattle.btor_witness.specs.declared.shape.Shape.TheVariants.{Assignment}
use Rattle.btor_witness.specs.Bytes.{all_binary}
use Rattle.btor_witness.proofs.Shaped.{statement_read}
use Rattle.btor_witness.proofs.shape.statement_shape.Goals as goal

pub returns : goal.returns
returns c =
    let line = c.args.line.now in
    let i = c.number_front-index.result.0 in
    let front = c.number_front-index.ensures in
    let rest = c.number_front-index.result.1.now in
    let bs = c.in_ok-blank.digits.now in
    let cut : rest ≡ c.in_ok-blank.blank.now ∷ bs = c.in_ok-blank.ensures.cases.0 in
    let whole : line ≡ front.digits ++ 32 ∷ bs = front.cut ∙ ap (λ x. front.digits ++ x) (cut ∙ ap (λ k. k ∷ bs) c.if-blank-ne32.false) in
    let some : 0 < length front.digits = omega (arith, ap length front.cut, length-append front.digits rest, c.if-rest-line.false) in
    let more : 0 < length bs = grind (arith, c.is_empty.ensures, c.if-is_empty.false) in
    let binary : all_binary bs ≡ true = sym c.if-not-all_binary.ensures in
    statement_read line front.digits bs i whole some front.all front.value more binary ∙ ap (λ w. Some (Assignment i w)) (sym c.word_of.ensures)

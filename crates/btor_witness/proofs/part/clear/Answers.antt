use Rattle.std.proofs.Common.{◌≡◌, ◌<◌, true, drop, length, sym, arith, add-one, subst, get_or, ap, ◌∙◌}
use Rattle.btor_witness.specs.Parts.{is_stated}
use Rattle.btor_witness.proofs.Marks.{cleared_more, stated_at}
use Rattle.btor_witness.proofs.part.clear.Goals as goal

pub bounds-marks-one : goal.bounds-marks-one
bounds-marks-one c =
    let lt : c.loop-one.one-index < length c.args.stated.now = omega (arith, c.loop-one-test.true, ap length c.as_slice-one-items.ensures) in
    let at : get_or c.args.stated.now c.loop-one.one-index c.one-item.result ≡ c.one-item.result =
    ap (λ xs. get_or xs c.loop-one.one-index c.one-item.result) (sym c.as_slice-one-items.ensures) ∙ sym c.one-item.is in
    let within = c.requires.within c.one-item.result.index (stated_at c.args.stated.now c.loop-one.one-index c.one-item.result lt at) in
    omega (arith, within, c.loop-one.auto.marks)

pub loop-one-preserved : goal.loop-one-preserved
loop-one-preserved c = λ k h.
    let lt : c.loop-one.one-index < length c.args.stated.now = omega (arith, c.loop-one-test.true, ap length c.as_slice-one-items.ensures) in
    let at : get_or c.args.stated.now c.loop-one.one-index c.one-item.result ≡ c.one-item.result =
    ap (λ xs. get_or xs c.loop-one.one-index c.one-item.result) (sym c.as_slice-one-items.ensures) ∙ sym c.one-item.is in
    let within = c.requires.within c.one-item.result.index (stated_at c.args.stated.now c.loop-one.one-index c.one-item.result lt at) in
    let inside : c.one-item.result.index < length c.loop-one.marks = omega (arith, within, c.loop-one.auto.marks) in
    subst (λ n. is_stated (drop n c.args.stated.now) k ≡ true) (sym (add-one c.loop-one.one-index))
    (cleared_more c.loop-one.marks c.args.stated.now c.loop-one.one-index k c.one-item.result lt at inside c.loop-one.invariant h)

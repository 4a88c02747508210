use Rattle.std.proofs.Common.{◌≡◌, ◌+◌, ◌<◌, true, set, length, sym, subst, ap, arith}
use Rattle.std.specs.Prelude.{slice_get, Some}
use Rattle.std.proofs.lemmas.Option.{slice_get_read}
use Rattle.btor_tree.specs.declared.args.Arg.{Arg}
use Rattle.btor_simplify.specs.Fates.{replaced}
use Rattle.btor_simplify.specs.Marks.{MarksUpto}
use Rattle.btor_simplify.proofs.Marking.{marks_none, marks_step}
use Rattle.btor_simplify.proofs.marks.mark_args.Goals as goal

pub loop-k-init : goal.loop-k-init
loop-k-init c = marks_none c.args.fates.now c.args.args.now c.args.marks.now

pub replaced-place-requires : goal.replaced-place-requires
replaced-place-requires c =
    let at : slice_get c.args.args.now c.loop-k.k ≡ Some c.at.result.now = slice_get_read c.args.args.now c.len-k-end.result c.loop-k.k c.at.result.now c.len-k-end.ensures c.loop-k-test.true c.at.ensures in
    (c.requires c.loop-k.k c.at.result.now at).0

pub bounds-marks-place : goal.bounds-marks-place
bounds-marks-place c =
    let at : slice_get c.args.args.now c.loop-k.k ≡ Some c.at.result.now = slice_get_read c.args.args.now c.len-k-end.result c.loop-k.k c.at.result.now c.len-k-end.ensures c.loop-k-test.true c.at.ensures in
    omega (arith, (c.requires c.loop-k.k c.at.result.now at).1, ap (λ (b : Arg). b.line) c.replaced-place.ensures, c.loop-k.invariant.sized)

pub loop-k-preserved : goal.loop-k-preserved
loop-k-preserved c =
    let at : slice_get c.args.args.now c.loop-k.k ≡ Some c.at.result.now = slice_get_read c.args.args.now c.len-k-end.result c.loop-k.k c.at.result.now c.len-k-end.ensures c.loop-k-test.true c.at.ensures in
    let lt : (replaced c.args.fates.now c.at.result.now).line < length c.loop-k.marks = omega (arith, (c.requires c.loop-k.k c.at.result.now at).1, c.loop-k.invariant.sized) in
    subst (λ (b : Arg). MarksUpto c.args.fates.now c.args.args.now (c.loop-k.k + 1) c.args.marks.now (set c.loop-k.marks b.line true)) (sym c.replaced-place.ensures)
    (marks_step c.args.fates.now c.args.args.now c.loop-k.k c.args.marks.now c.loop-k.marks c.at.result.now c.loop-k.invariant at lt)

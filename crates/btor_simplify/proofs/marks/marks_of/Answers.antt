use Rattle.std.proofs.Common.{◌≡◌, ◌+◌, ◌-◌, length, sym, subst, ◌∙◌, arith}
use Rattle.std.proofs.lemmas.List.{take_at}
use Rattle.btor_simplify.specs.Marks.{AreMarks}
use Rattle.btor_simplify.proofs.Marking.{no_marks, resized}
use Rattle.btor_simplify.proofs.marks.marks_of.Goals as goal

pub loop-k-init : goal.loop-k-init
loop-k-init c =
    let r = resized c.new-marks.result.items c.resize.new.self.items c.len.result _ c.new-marks.ensures.items c.new-marks.ensures.len c.in_ok-resize.ensures.items in
    let same : length c.args.nodes.now ≡ length c.args.nodes.now - 0 = omega arith in
    subst (λ n. AreMarks c.args.nodes.now c.args.fates.now n c.resize.new.self.items) same
    (no_marks c.args.nodes.now c.args.fates.now c.resize.new.self.items (r.0 ∙ c.len.ensures.value) r.1)

pub loop-k-preserved : goal.loop-k-preserved
loop-k-preserved c =
    let new = c.mark_line.new.marks in
    let n = length c.args.nodes.now in
    let long : length new ≡ c.loop-k.marks.len = omega (arith, c.mark_line.ensures.sized, c.loop-k.invariant.sized, c.loop-k.marks.ok) in
    let place : c.len-in-loop-k.result - 1 - c.loop-k.k ≡ n - (c.loop-k.k + 1) = omega (arith, c.len-in-loop-k.ensures.value) in
    subst (AreMarks c.args.nodes.now c.args.fates.now (n - (c.loop-k.k + 1))) (sym (take_at new _ c.loop-k.marks.len long))
    (subst (λ m. AreMarks c.args.nodes.now c.args.fates.now m new) place c.mark_line.ensures)

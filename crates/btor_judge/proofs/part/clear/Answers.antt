use Rattle.std.proofs.Common.{arith}
use Rattle.btor_judge.specs.Kept.{kept}
use Rattle.btor_judge.proofs.KeptLaws.{clearing_begun, is_clear}
use Rattle.btor_judge.proofs.part.clear.Goals as goal

pub loop-place-init : goal.loop-place-init
loop-place-init c = record { marked = c.requires.marked; worded = c.requires.worded; clearing = λ stated h. clearing_begun (kept c.args.widths.now c.args.marks.now c.args.words.now) stated h }

pub loop-place-preserved : goal.loop-place-preserved
loop-place-preserved c = record {
  marked = c.clear_at.ensures.marked;
  worded = c.clear_at.ensures.worded;
  clearing = λ stated h. c.clear_at.ensures.clearing (c.loop-place.invariant.clearing stated h);
}

pub returns-clause-none : goal.returns-clause-none
returns-clause-none c = λ stated h.
    is_clear c.loop-place.place (kept c.args.widths.now c.loop-place.marks c.loop-place.words) (omega (arith, c.loop-place-test.false, c.loop-place.invariant.marked, c.len-place-end.ensures)) c.loop-place.invariant.worded (c.loop-place.invariant.clearing stated h)

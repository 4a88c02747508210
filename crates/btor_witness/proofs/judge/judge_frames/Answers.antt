use Rattle.std.proofs.Common.{◌<◌, ◌+◌, length, eqb, sym, ap, arith}
use Rattle.btor_witness.proofs.Judgement.{so_far, more_far, fails_here, if_no}
use Rattle.btor_witness.proofs.judge.judge_frames.Goals as goal

pub loop-step-init : goal.loop-step-init
loop-step-init c = so_far c.args.nodes.now c.args.witness.now c.args.room.now c.requires.fits c.requires.none

pub returns-in-Some : goal.returns-in-Some
returns-in-Some c =
    let frames = c.args.witness.now.frames in
    let i = c.loop-step.step in
    let room = c.loop-step.room in
    let lt : i < length frames = omega (arith, c.loop-step-test.true, c.len-frames.ensures) in
    let last = ap (eqb (i + 1)) c.len-frames.ensures in
    let fails = c.in-Some.ensures.some room.frames.begun room.frames.row c.step.ensures.next in
    if_no c.no.result c.args.nodes.now c.args.witness.now i c.in-Some.clause c.no.ensures
    (fails_here c.args.nodes.now c.args.witness.now i c.at-frame.result.now room c.step.new.self.frames.row (eqb (i + 1) c.len-frames.result) c.in-Some.clause lt (sym c.at-frame.ensures) last c.loop-step.invariant c.step.ensures.next fails)

pub loop-step-preserved : goal.loop-step-preserved
loop-step-preserved c =
    let frames = c.args.witness.now.frames in
    let i = c.loop-step.step in
    let room = c.loop-step.room in
    let lt : i < length frames = omega (arith, c.loop-step-test.true, c.len-frames.ensures) in
    let last = ap (eqb (i + 1)) c.len-frames.ensures in
    let passes = c.in_default.ensures.none room.frames.begun room.frames.row c.step.ensures.next in
    more_far c.args.nodes.now c.args.witness.now i c.at-frame.result.now room c.step.new.self (eqb (i + 1) c.len-frames.result) lt (sym c.at-frame.ensures) last c.loop-step.invariant c.step.ensures.fits c.step.ensures.begun c.step.ensures.next passes

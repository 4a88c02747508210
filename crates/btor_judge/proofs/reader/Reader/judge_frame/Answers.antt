use Rattle.std.proofs.Common.{List, sym, subst}
use Rattle.text_core.specs.declared.verdict.Verdict.{Verdict}
use Rattle.word_core.specs.Words.{BitVector}
use Rattle.btor_frames.specs.Steps.{SuppliedFit, IsStep}
use Rattle.btor_judge.specs.Standing.{AreJudged, JudgesFrame}
use Rattle.btor_judge.proofs.Passing.{frame_passes, frame_fails, stays_failed}
use Rattle.btor_judge.proofs.StandLaws.{frame_handed, stepped, stated_step}
use Rattle.btor_judge.proofs.reader.Reader.judge_frame.Goals as goal

pub step-requires-clause-handed : goal.step-requires-clause-handed
step-requires-clause-handed c =
    let lines = c.args.nodes.now in
    let old = c.args.self.now in
    subst (λ (ws : List BitVector). SuppliedFit lines ws c.words-in-Yes.result.now) (sym c.words.ensures)
    (subst (λ (ws : List BitVector). SuppliedFit lines old.inputs.words ws) (sym c.words-in-Yes.ensures) (frame_handed lines old c.requires.0 c.are_well_formed.ensures c.requires.1))

pub failure-requires-clause-frame : goal.failure-requires-clause-frame
failure-requires-clause-frame c = (c.requires.0, stepped c.args.nodes.now c.args.self.now c.requires.0 c.step.new.self c.requires.1 c.step.ensures.fits)

pub returns-in-Some-clause-judged : goal.returns-in-Some-clause-judged
returns-in-Some-clause-judged c = λ f before h judged.
    let lines = c.args.nodes.now in
    let old = c.args.self.now in
    let new = c.step.new.self in
    let next = subst (λ (ws : List BitVector). IsStep lines old.frames.begun old.frames.row old.inputs.words ws new.row) c.words-in-Yes.ensures (subst (λ (ws : List BitVector). IsStep lines old.frames.begun old.frames.row ws c.words-in-Yes.result.now new.row) c.words.ensures c.step.ensures.next) in
    let p = stated_step lines old f new.row h next in
    let none_failed = subst (λ (v : Verdict). AreJudged lines old.frames old.count old.bad before v) c.in-Yes.is judged in
    frame_fails c.args.last lines old.frames new old.count old.bad before f c.in-Some.clause none_failed p (c.in-Some.ensures.some f (stepped lines old f new h c.step.ensures.fits) old.frames.begun old.frames.row p)

pub returns-in_default-failure-clause-judged : goal.returns-in_default-failure-clause-judged
returns-in_default-failure-clause-judged c = λ f before h judged.
    let lines = c.args.nodes.now in
    let old = c.args.self.now in
    let new = c.step.new.self in
    let next = subst (λ (ws : List BitVector). IsStep lines old.frames.begun old.frames.row old.inputs.words ws new.row) c.words-in-Yes.ensures (subst (λ (ws : List BitVector). IsStep lines old.frames.begun old.frames.row ws c.words-in-Yes.result.now new.row) c.words.ensures c.step.ensures.next) in
    let p = stated_step lines old f new.row h next in
    let none_failed = subst (λ (v : Verdict). AreJudged lines old.frames old.count old.bad before v) c.in-Yes.is judged in
    subst (λ (v : Verdict). JudgesFrame lines c.args.last new old.count old.bad before f v) (sym c.in-Yes.is)
    (frame_passes c.args.last lines old.frames new old.count old.bad before f none_failed c.step.ensures.begun p (c.in_default-failure.ensures.none f (stepped lines old f new h c.step.ensures.fits) old.frames.begun old.frames.row p))

pub returns-in_default-clause-judged : goal.returns-in_default-clause-judged
returns-in_default-clause-judged c = λ f before h judged. stays_failed c.args.last c.args.nodes.now c.args.self.now.frames c.args.self.now.count c.args.self.now.bad before f c.args.self.now.verdict c.in_default.not-Yes judged

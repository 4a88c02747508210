use Rattle.std.proofs.Common.{sym, subst, inl, inr}
use Rattle.btor_witness.specs.Reading.{last_frame}
use Rattle.btor_judge.specs.declared.reader.Reader.{Reader}
use Rattle.btor_judge.specs.Standing.{HasClosed}
use Rattle.btor_judge.proofs.StandLaws.{has_frame, few_frames, judged_before}
use Rattle.btor_judge.proofs.Turns.{closed_none, none_begun, closed_one, one_begun}
use Rattle.btor_judge.proofs.reader.Reader.close_frame.Goals as goal

pub pass_frame-requires : goal.pass_frame-requires
pass_frame-requires c = record {
  frame = (last_frame c.requires.0, has_frame c.args.nodes.now c.args.self.now c.requires.0 (inl c.in-States.is) c.requires.1);
  few = few_frames c.args.nodes.now c.args.self.now c.requires.0 c.requires.1;
}

pub pass_frame-requires-in-Inputs : goal.pass_frame-requires-in-Inputs
pass_frame-requires-in-Inputs c = record {
  frame = (last_frame c.requires.0, has_frame c.args.nodes.now c.args.self.now c.requires.0 (inr c.in-Inputs.is) c.requires.1);
  few = few_frames c.args.nodes.now c.args.self.now c.requires.0 c.requires.1;
}

pub returns-in-States : goal.returns-in-States
returns-in-States c = λ r h.
    let lines = c.args.nodes.now in
    let old = c.args.self.now in
    let judged = c.pass_frame.ensures.judged (last_frame r) r.frames (has_frame lines old r (inl c.in-States.is) h) (judged_before lines old r h.0) in
    subst (λ (x : Reader). HasClosed lines x r) (sym c.pass_frame.ensures.rest)
    (closed_one lines old c.pass_frame.new.self.frames c.pass_frame.new.self.verdict r h.0 (one_begun lines old r h.0 (inl c.in-States.is)) c.pass_frame.ensures.fits judged)

pub returns-in-Inputs : goal.returns-in-Inputs
returns-in-Inputs c = λ r h.
    let lines = c.args.nodes.now in
    let old = c.args.self.now in
    let judged = c.pass_frame-in-Inputs.ensures.judged (last_frame r) r.frames (has_frame lines old r (inr c.in-Inputs.is) h) (judged_before lines old r h.0) in
    subst (λ (x : Reader). HasClosed lines x r) (sym c.pass_frame-in-Inputs.ensures.rest)
    (closed_one lines old c.pass_frame-in-Inputs.new.self.frames c.pass_frame-in-Inputs.new.self.verdict r h.0 (one_begun lines old r h.0 (inr c.in-Inputs.is)) c.pass_frame-in-Inputs.ensures.fits judged)

pub returns-in_default : goal.returns-in_default
returns-in_default c = λ r h. closed_none c.args.nodes.now c.args.self.now r h.0 (none_begun c.args.nodes.now c.args.self.now r h.0 c.in_default.not-States c.in_default.not-Inputs)

use Rattle.std.proofs.Common.{sym, subst, inl, inr}
use Rattle.btor_witness.specs.declared.shape.Shape.TheVariants.{End}
use Rattle.btor_witness.specs.Sizes.{sizes_of}
use Rattle.btor_witness.specs.Reading.{last_frame, step}
use Rattle.btor_judge.specs.declared.reader.Reader.{Reader}
use Rattle.btor_judge.specs.declared.reader.Stage.TheVariants.{Done}
use Rattle.btor_judge.specs.Standing.{Does}
use Rattle.btor_judge.proofs.StandLaws.{has_frame, judged_before}
use Rattle.btor_judge.proofs.Turns.{at_end}
use Rattle.btor_judge.proofs.reader.Reader.end_line.Goals as goal

pub judge_frame-requires : goal.judge_frame-requires
judge_frame-requires c = (last_frame c.requires.0, has_frame c.args.nodes.now c.args.self.now c.requires.0 (inl c.in-States.is) c.requires.1)

pub judge_frame-requires-in-Inputs : goal.judge_frame-requires-in-Inputs
judge_frame-requires-in-Inputs c = (last_frame c.requires.0, has_frame c.args.nodes.now c.args.self.now c.requires.0 (inr c.in-Inputs.is) c.requires.1)

pub returns-in-States : goal.returns-in-States
returns-in-States c = λ r h.
    let lines = c.args.nodes.now in
    let old = c.args.self.now in
    let new = c.judge_frame.new.self in
    let judged = c.judge_frame.ensures.judged (last_frame r) r.frames (has_frame lines old r (inl c.in-States.is) h) (judged_before lines old r h.0) in
    subst (λ (x : Reader). Does lines r (step (sizes_of lines) r End) x Done) (sym c.judge_frame.ensures.rest) (at_end lines old new.frames new.verdict r h.0 (inl c.in-States.is) judged)

pub returns-in-Inputs : goal.returns-in-Inputs
returns-in-Inputs c = λ r h.
    let lines = c.args.nodes.now in
    let old = c.args.self.now in
    let new = c.judge_frame-in-Inputs.new.self in
    let judged = c.judge_frame-in-Inputs.ensures.judged (last_frame r) r.frames (has_frame lines old r (inr c.in-Inputs.is) h) (judged_before lines old r h.0) in
    subst (λ (x : Reader). Does lines r (step (sizes_of lines) r End) x Done) (sym c.judge_frame-in-Inputs.ensures.rest) (at_end lines old new.frames new.verdict r h.0 (inr c.in-Inputs.is) judged)

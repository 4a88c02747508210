use Rattle.std.proofs.Common.{sym, ◌∙◌}
use Rattle.btor_witness.specs.Sizes.{sizes_of}
use Rattle.btor_judge.proofs.StandLaws.{few_frames}
use Rattle.btor_judge.proofs.Turns.{wrong_number, too_many, at_frame}
use Rattle.btor_judge.proofs.reader.Reader.new_frame.Goals as goal

pub frame_count-requires : goal.frame_count-requires
frame_count-requires c = few_frames c.args.nodes.now c.args.self.now c.requires.somewhere.0 c.requires.somewhere.1

pub returns-then-number-frame_count : goal.returns-then-number-frame_count
returns-then-number-frame_count c = λ r h. wrong_number (sizes_of c.args.nodes.now) c.args.part c.args.number r (λ e. c.if-number-frame_count.true (e ∙ sym (c.frame_count.ensures r h.0.same_phase h.0.counted)))

pub returns-then-not-may_follow : goal.returns-then-not-may_follow
returns-then-not-may_follow c = λ r h.
    too_many (sizes_of c.args.nodes.now) c.args.part c.args.number r (c.if-number-frame_count.false ∙ c.frame_count.ensures r h.0.same_phase h.0.counted) (sym (c.may_follow.ensures c.args.nodes.now h.0.fits) ∙ c.if-not-may_follow.true)

pub returns : goal.returns
returns c = λ r h.
    let closed = c.close_frame.ensures r h in
    at_frame c.args.nodes.now c.close_frame.new.self r c.args.part c.args.number c.clear.new.self c.clear-2.new.self c.requires.part (c.if-number-frame_count.false ∙ c.frame_count.ensures r h.0.same_phase h.0.counted) (sym (c.may_follow.ensures c.args.nodes.now h.0.fits) ∙ c.if-not-may_follow.false) closed
    c.clear.ensures.widths c.clear-2.ensures.widths (c.clear.ensures.none r.states closed.states) (c.clear-2.ensures.none r.inputs closed.inputs)

use Rattle.btor_witness.proofs.Judgement.{all_agree, agree_all, not_both}
use Rattle.btor_judge.proofs.reader.Reader.failure.Goals as goal
use Rattle.btor_judge.proofs.reader.Reader.failure.Goals.{else-last-via-then-last+else-not-bad, else-last-via-else-last}

pub returns-then-not-agrees-clause-some : goal.returns-then-not-agrees-clause-some
returns-then-not-agrees-clause-some c = λ f h begun before p agree.
    not_both c.agrees.result ((c.agrees.ensures f h).1 (agree_all c.args.nodes.now begun before f c.args.self.now.frames.row h.states_fit p agree)) c.if-not-agrees.true

pub returns-then-not-constraints_hold-clause-some : goal.returns-then-not-constraints_hold-clause-some
returns-then-not-constraints_hold-clause-some c = λ f h begun before p. (
  all_agree c.args.nodes.now begun f c.args.self.now.frames.row ((c.agrees.ensures f h).0 c.if-not-agrees.false),
  λ x. not_both c.constraints_hold.result (c.constraints_hold.ensures.1 x) c.if-not-constraints_hold.true,
)

pub returns-then-not-bad-clause-some : goal.returns-then-not-bad-clause-some
returns-then-not-bad-clause-some c = λ f h begun before p. (
  all_agree c.args.nodes.now begun f c.args.self.now.frames.row ((c.agrees.ensures f h).0 c.if-not-agrees.false),
  c.constraints_hold.ensures.0 c.if-not-constraints_hold.false,
  c.if-last.true,
  λ x. not_both c.bad.result (c.bad.ensures.1 x) c.if-not-bad.true,
)

pub returns-clause-none : goal.returns-clause-none
returns-clause-none c = λ f h begun before p. (
  all_agree c.args.nodes.now begun f c.args.self.now.frames.row ((c.agrees.ensures f h).0 c.if-not-agrees.false),
  c.constraints_hold.ensures.0 c.if-not-constraints_hold.false,
  λ last. elim c.else-last.branch [
    | else-last-via-then-last+else-not-bad w ↦ w.bad.ensures.0 w.if-not-bad.false
    | else-last-via-else-last w ↦ absurd (not_both c.args.last last w.if-last.false)
  ],
)

use Rattle.std.proofs.Common.{refl}
use Rattle.btor_tree.specs.Fits.{is_state, count_of}
use Rattle.btor_witness.proofs.Tables.{part_below}
use Rattle.btor_witness.proofs.Judgement.{all_agree, agree_all, not_both}
use Rattle.btor_witness.proofs.judge.failure.Goals as goal
use Rattle.btor_witness.proofs.judge.failure.Goals.{else-last-via-then-last+else-not-bad, else-last-via-else-last}

pub agrees-requires-clause-below : goal.agrees-requires-clause-below
agrees-requires-clause-below c = part_below c.args.nodes.now is_state (count_of is_state c.args.nodes.now) c.args.frame.now.states refl c.requires.states

pub returns-then-not-agrees-clause-some : goal.returns-then-not-agrees-clause-some
returns-then-not-agrees-clause-some c = λ begun before p agree.
    not_both c.agrees.result (c.agrees.ensures.1 (agree_all c.args.nodes.now begun before c.args.frame.now c.args.room.now.frames.row c.requires.states p agree)) c.if-not-agrees.true

pub returns-then-not-constraints_hold-clause-some : goal.returns-then-not-constraints_hold-clause-some
returns-then-not-constraints_hold-clause-some c = λ begun before p. (
  all_agree c.args.nodes.now begun c.args.frame.now c.args.room.now.frames.row (c.agrees.ensures.0 c.if-not-agrees.false),
  λ h. not_both c.constraints_hold.result (c.constraints_hold.ensures.1 h) c.if-not-constraints_hold.true,
)

pub returns-then-not-bad-clause-some : goal.returns-then-not-bad-clause-some
returns-then-not-bad-clause-some c = λ begun before p. (
  all_agree c.args.nodes.now begun c.args.frame.now c.args.room.now.frames.row (c.agrees.ensures.0 c.if-not-agrees.false),
  c.constraints_hold.ensures.0 c.if-not-constraints_hold.false,
  c.if-last.true,
  λ h. not_both c.bad.result (c.bad.ensures.1 h) c.if-not-bad.true,
)

pub returns-clause-none : goal.returns-clause-none
returns-clause-none c = λ begun before p. (
  all_agree c.args.nodes.now begun c.args.frame.now c.args.room.now.frames.row (c.agrees.ensures.0 c.if-not-agrees.false),
  c.constraints_hold.ensures.0 c.if-not-constraints_hold.false,
  λ last. elim c.else-last.branch [
    | else-last-via-then-last+else-not-bad w ↦ w.bad.ensures.0 w.if-not-bad.false
    | else-last-via-else-last w ↦ absurd (not_both c.args.last last w.if-last.false)
  ],
)

use Rattle.std.proofs.Common.{◌≡◌, length, true, false, ap, refl, arith, below_more}
use Rattle.btor_witness.proofs.Judgement.{not_both}
use Rattle.btor_judge.proofs.StandLaws.{all_agree_from, agrees_there}
use Rattle.btor_judge.proofs.reader.Reader.agrees.Goals as goal

pub returns-then-not-agrees_at : goal.returns-then-not-agrees_at
returns-then-not-agrees_at c = λ f h. (
  λ t. absurd (let g : false ≡ true = t in cc),
  λ all. absurd (not_both c.agrees_at.result (c.agrees_at.ensures.1 (agrees_there c.args.nodes.now c.args.self.now.frames.row c.args.self.now.states f.states c.loop-k.k h.fits.states h.states h.states_fit all)) c.if-not-agrees_at.true),
)

pub loop-k-preserved : goal.loop-k-preserved
loop-k-preserved c = below_more _ _ c.loop-k.invariant (c.agrees_at.ensures.0 c.if-not-agrees_at.false)

pub returns : goal.returns
returns c = λ f h. (
  λ t. all_agree_from c.args.nodes.now c.args.self.now.frames.row c.args.self.now.states f.states c.loop-k.k h.fits.states h.states h.states_fit (omega (arith, c.loop-k-test.false, c.len-k-end.ensures, c.loop-k.auto.k-end, ap length h.fits.places)) c.loop-k.invariant,
  λ all. refl,
)

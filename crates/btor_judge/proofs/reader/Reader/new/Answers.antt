use Rattle.std.proofs.Common.{[], refl}
use Rattle.text_core.specs.declared.verdict.Verdict.TheVariants.{Yes}
use Rattle.btor_judge.proofs.Passing.{fresh_judged}
use Rattle.btor_judge.proofs.reader.Reader.new.Goals as goal

pub returns : goal.returns
returns c = record {
  fits = record {
    bads = c.bads.ensures;
    states = c.in_ok-states.ensures.states;
    inputs = c.in_ok-states.ensures.inputs;
    frames = c.in_ok-frames.ensures.fits;
    places = c.in_ok-frames.ensures.places;
  };
  same_phase = refl;
  same_bad = refl;
  counted = refl;
  states = c.in_ok-states.ensures.none.0;
  inputs = c.in_ok-states.ensures.none.1;
  fresh = (c.in_ok-frames.ensures.none, refl, refl);
  judged = fresh_judged c.args.nodes.now c.in_ok-frames.frames 0 0 [] Yes c.in_ok-frames.ensures.none refl refl refl;
}

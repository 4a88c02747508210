use Rattle.std.proofs.Common.{◌+◌, ◌++◌, ◌∷◌, [], length, refl, sym, subst}
use Rattle.btor_witness.specs.Bytes.{line_parts}
use Rattle.btor_witness.specs.Sizes.{sizes_of}
use Rattle.btor_witness.specs.Texts.{next_of}
use Rattle.btor_judge.specs.declared.reader.Stage.{Stage}
use Rattle.btor_judge.specs.Standing.{Does}
use Rattle.btor_judge.specs.Judging.{IsReading, counted, RepresentsAt}
use Rattle.btor_judge.proofs.Pieces.{whole_next, whole_ends}
use Rattle.btor_judge.proofs.judge.Judge.read_whole.Goals as goal

pub returns-in-Going-clause-represents : goal.returns-in-Going-clause-represents
returns-in-Going-clause-represents c = λ text h.
    let lines = c.args.nodes.now in
    let judge = c.args.self.now in
    let raw = c.args.raw.now in
    let reader = c.take_whole-self.new.self in
    let at : IsReading lines judge text = subst (RepresentsAt lines judge text) c.requires.begins.going h in
    let next = next_of (sizes_of lines) at.reading (line_parts raw) in
    let does = subst (Does lines at.reading next reader) c.in-Going.is (c.take_whole-self.ensures at.reading (at.at, at.fits)) in
    subst (λ (s : Stage). RepresentsAt lines (counted (record judge { reader = reader; stage = s; bytes = judge.bytes + length raw; lines = judge.lines + 1; offset = judge.bytes + length raw + 1 })) (text ++ (raw ++ 10 ∷ [])) s) (sym c.in-Going.is)
    (whole_next lines judge text raw reader c.requires.begins c.requires.line at does)

pub returns-in_default : goal.returns-in_default
returns-in_default c = record {
  represents = λ text h.
      let lines = c.args.nodes.now in
      let judge = c.args.self.now in
      let at : IsReading lines judge text = subst (RepresentsAt lines judge text) c.requires.begins.going h in
      whole_ends lines judge text c.args.raw.now c.take_whole-self.new.self c.take_whole-self.result c.requires.begins c.requires.line c.in_default.not-Going at (c.take_whole-self.ensures at.reading (at.at, at.fits));
  unchanged = refl;
  bytes = c.requires.begins.short;
}

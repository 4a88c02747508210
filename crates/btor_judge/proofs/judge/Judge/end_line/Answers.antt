use Rattle.std.proofs.Common.{sym, subst, ◌+◌, ◌++◌, ◌∷◌, []}
use Rattle.btor_witness.specs.Bytes.{line_parts}
use Rattle.btor_witness.specs.Sizes.{sizes_of}
use Rattle.btor_witness.specs.Texts.{next_of}
use Rattle.btor_judge.specs.declared.line.Line.{Line}
use Rattle.btor_judge.specs.declared.reader.Stage.{Stage}
use Rattle.btor_judge.specs.Scanning.{line_of}
use Rattle.btor_judge.specs.Standing.{Does}
use Rattle.btor_judge.specs.Judging.{counted, RepresentsAt, Represents}
use Rattle.btor_judge.proofs.Pieces.{next_line, ends_line}
use Rattle.btor_judge.proofs.judge.Judge.end_line.Goals as goal

pub take_line-self-requires : goal.take_line-self-requires
take_line-self-requires c = (c.requires.1.reading, (c.requires.1.at, c.requires.1.fits))

pub returns-in-Going-clause-represents : goal.returns-in-Going-clause-represents
returns-in-Going-clause-represents c = λ text h lt.
    let lines = c.args.nodes.now in
    let judge = c.args.self.now in
    let reader = c.take_line-self.new.self in
    let does = c.take_line-self.ensures h.reading h.current (h.at, h.fits) h.line in
    let next = next_of (sizes_of lines) h.reading (line_parts h.current) in
    let on = next_line lines judge text reader lt h (subst (Does lines h.reading next reader) c.in-Going.is does) in
    subst (λ (l : Line). Represents lines (counted (record judge { reader = reader; line = l; stage = c.take_line-self.result; lines = judge.lines + 1; offset = judge.bytes + 1 })) (text ++ 10 ∷ [])) (sym c.new-self.ensures)
    (subst (λ (s : Stage). RepresentsAt lines (counted (record judge { reader = reader; line = line_of []; stage = s; lines = judge.lines + 1; offset = judge.bytes + 1 })) (text ++ 10 ∷ []) s) (sym c.in-Going.is) on)

pub returns-in_default-clause-represents : goal.returns-in_default-clause-represents
returns-in_default-clause-represents c = λ text h lt.
    ends_line c.args.nodes.now c.args.self.now text c.take_line-self.new.self c.take_line-self.result lt c.in_default.not-Going h (c.take_line-self.ensures h.reading h.current (h.at, h.fits) h.line)

use Rattle.std.proofs.Common.{subst}
use Rattle.btor_witness.specs.Bytes.{line_parts}
use Rattle.btor_witness.specs.Sizes.{sizes_of}
use Rattle.btor_witness.specs.Texts.{next_of}
use Rattle.btor_judge.specs.Standing.{Does}
use Rattle.btor_judge.proofs.Ending.{ends_early, ends_there}
use Rattle.btor_judge.proofs.judge.Judge.close_line.Goals as goal

pub take_line-self-requires : goal.take_line-self-requires
take_line-self-requires c = (c.requires.1.reading, (c.requires.1.at, c.requires.1.fits))

pub returns-in-Going : goal.returns-in-Going
returns-in-Going c = λ text h.
    let lines = c.args.nodes.now in
    let does = c.take_line-self.ensures h.reading h.current (h.at, h.fits) h.line in
    let next = next_of (sizes_of lines) h.reading (line_parts h.current) in
    ends_early lines c.args.self.now text c.take_line-self.new.self h (subst (Does lines h.reading next c.take_line-self.new.self) c.in-Going.is does)

pub returns-in_default : goal.returns-in_default
returns-in_default c = λ text h. ends_there c.args.nodes.now c.args.self.now text c.take_line-self.new.self c.take_line-self.result c.in_default.not-Going h (c.take_line-self.ensures h.reading h.current (h.at, h.fits) h.line)

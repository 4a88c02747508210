use Rattle.std.proofs.Common.{subst, arith}
use Rattle.std.proofs.lemmas.List.{length_push}
use Rattle.btor_judge.specs.Judging.{RepresentsAt}
use Rattle.btor_judge.proofs.Pieces.{long_enough, short_enough, passes_byte}
use Rattle.btor_judge.proofs.judge.Judge.take.Goals as goal

pub read-requires : goal.read-requires
read-requires c =
    let lines = c.args.nodes.now in
    let judge = c.args.self.now in
    let text = c.requires.some.0 in
    (text, subst (RepresentsAt lines judge text) c.in-Going.is c.requires.some.1, (short_enough lines judge text judge.stage c.if-self-ge-MOST_BYTES.false c.requires.some.1).0)

pub returns-in-Going-clause-represents : goal.returns-in-Going-clause-represents
returns-in-Going-clause-represents c = λ text h.
    let lines = c.args.nodes.now in
    let judge = c.args.self.now in
    c.read.ensures.represents text (subst (RepresentsAt lines judge text) c.in-Going.is h) (short_enough lines judge text judge.stage c.if-self-ge-MOST_BYTES.false h).0

pub returns-in_default-clause-represents : goal.returns-in_default-clause-represents
returns-in_default-clause-represents c = λ text h.
    let lines = c.args.nodes.now in
    let judge = c.args.self.now in
    let short = short_enough lines judge text judge.stage c.if-self-ge-MOST_BYTES.false h in
    passes_byte lines judge text c.args.b judge.stage c.requires.unended short.0 c.in_default.not-Going short.1 h

pub returns-then-self-ge-MOST_BYTES-clause-represents : goal.returns-then-self-ge-MOST_BYTES-clause-represents
returns-then-self-ge-MOST_BYTES-clause-represents c = λ text h.
    let long = long_enough c.args.nodes.now c.args.self.now text c.args.self.now.stage c.if-self-ge-MOST_BYTES.true h in
    (omega (arith, long, length_push text c.args.b), c.if-self-ge-MOST_BYTES.true)

use Rattle.std.proofs.Common.{ap, arith, ◌∙◌}
use Rattle.std.specs.Prelude.{slice_set}
use Rattle.word_core.specs.declared.kinds.Binary.TheVariants.{And, Or, Eq}
use Rattle.btor_frames.specs.declared.sources.Source.TheVariants.{FromInput, FromFree, FromLast, FromLastNot, NotOf, AndOf, OrOf, EqOf, IteOf}
use Rattle.btor_frames.specs.Sources.{negated_arg}
use Rattle.btor_frames.proofs.NextWords.{source_here, joins, puts_joined, chooses, puts_ite, not_inside, puts_not, input_inside, free_inside, last_inside, next_inside, puts_last}
use Rattle.btor_frames.proofs.next.put_source.Goals as goal

pub word_at-requires : goal.word_at-requires
word_at-requires c =
    let here = source_here c.args.nodes.now c.args.i c.args.source (FromInput c.in-FromInput.n) c.requires.inside c.requires.source c.in-FromInput.is in
    input_inside c.args.nodes.now c.args.supplied.now.inputs.now c.args.supplied.now.free.now c.args.i c.in-FromInput.n here.0 c.requires.handed here.1 here.2

pub word_at-requires-in-FromFree : goal.word_at-requires-in-FromFree
word_at-requires-in-FromFree c =
    let here = source_here c.args.nodes.now c.args.i c.args.source (FromFree c.in-FromFree.n) c.requires.inside c.requires.source c.in-FromFree.is in
    free_inside c.args.nodes.now c.args.supplied.now.inputs.now c.args.supplied.now.free.now c.args.i c.in-FromFree.n here.0 c.requires.handed here.1 here.2.0 here.2.2

pub word_at-requires-in-FromLast : goal.word_at-requires-in-FromLast
word_at-requires-in-FromLast c =
    let here = source_here c.args.nodes.now c.args.i c.args.source (FromLast c.in-FromLast.n) c.requires.inside c.requires.source c.in-FromLast.is in
    omega (arith, c.requires.long, c.requires.last_frame.sized, last_inside c.args.nodes.now c.args.last.now c.args.i c.in-FromLast.n here.0 c.requires.well_formed c.requires.last_frame c.requires.inside here.2)

pub returns-in-FromLast : goal.returns-in-FromLast
returns-in-FromLast c =
    let here = source_here c.args.nodes.now c.args.i c.args.source (FromLast c.in-FromLast.n) c.requires.inside c.requires.source c.in-FromLast.is in
    puts_last c.args.nodes.now c.args.last.now c.args.supplied.now.inputs.now c.args.supplied.now.free.now c.args.spare.now c.args.i here.0 c.set-in-FromLast.new.self c.requires.well_formed c.requires.inside c.requires.long here.1 c.in-FromLast.n c.requires.last_frame here.2 (c.set-in-FromLast.ensures ∙ ap (slice_set c.args.spare.now c.args.i) c.word_at-in-FromLast.ensures)

pub not_word_at-requires : goal.not_word_at-requires
not_word_at-requires c =
    let here = source_here c.args.nodes.now c.args.i c.args.source (FromLastNot c.in-FromLastNot.n) c.requires.inside c.requires.source c.in-FromLastNot.is in
    next_inside c.args.nodes.now c.args.last.now c.args.i here.0 (negated_arg c.in-FromLastNot.n) c.requires.well_formed c.requires.last_frame here.2

pub not_word_at-requires-in-NotOf : goal.not_word_at-requires-in-NotOf
not_word_at-requires-in-NotOf c =
    let here = source_here c.args.nodes.now c.args.i c.args.source (NotOf c.in-NotOf.a) c.requires.inside c.requires.source c.in-NotOf.is in
    not_inside c.args.nodes.now c.args.spare.now c.args.i c.in-NotOf.a here.0 c.requires.well_formed c.requires.inside c.requires.long here.1 here.2

pub returns-in-NotOf : goal.returns-in-NotOf
returns-in-NotOf c =
    let here = source_here c.args.nodes.now c.args.i c.args.source (NotOf c.in-NotOf.a) c.requires.inside c.requires.source c.in-NotOf.is in
    puts_not c.args.nodes.now c.args.last.now c.args.supplied.now.inputs.now c.args.supplied.now.free.now c.args.spare.now c.args.i here.0 c.set-in-NotOf.new.self c.requires.well_formed c.requires.inside c.requires.long here.1 c.in-NotOf.a here.2 (c.set-in-NotOf.ensures ∙ ap (slice_set c.args.spare.now c.args.i) c.not_word_at-in-NotOf.ensures)

pub put_ite-requires-clause-condition : goal.put_ite-requires-clause-condition
put_ite-requires-clause-condition c =
    let here = source_here c.args.nodes.now c.args.i c.args.source (IteOf c.in-IteOf.c c.in-IteOf.a c.in-IteOf.b) c.requires.inside c.requires.source c.in-IteOf.is in
    (chooses c.args.nodes.now c.args.spare.now c.args.i c.in-IteOf.c c.in-IteOf.a c.in-IteOf.b here.0 c.requires.well_formed c.requires.inside c.requires.long c.requires.frame here.1 here.2).condition

pub put_ite-requires-clause-first : goal.put_ite-requires-clause-first
put_ite-requires-clause-first c =
    let here = source_here c.args.nodes.now c.args.i c.args.source (IteOf c.in-IteOf.c c.in-IteOf.a c.in-IteOf.b) c.requires.inside c.requires.source c.in-IteOf.is in
    (chooses c.args.nodes.now c.args.spare.now c.args.i c.in-IteOf.c c.in-IteOf.a c.in-IteOf.b here.0 c.requires.well_formed c.requires.inside c.requires.long c.requires.frame here.1 here.2).first

pub put_ite-requires-clause-second : goal.put_ite-requires-clause-second
put_ite-requires-clause-second c =
    let here = source_here c.args.nodes.now c.args.i c.args.source (IteOf c.in-IteOf.c c.in-IteOf.a c.in-IteOf.b) c.requires.inside c.requires.source c.in-IteOf.is in
    (chooses c.args.nodes.now c.args.spare.now c.args.i c.in-IteOf.c c.in-IteOf.a c.in-IteOf.b here.0 c.requires.well_formed c.requires.inside c.requires.long c.requires.frame here.1 here.2).second

pub put_ite-requires-clause-one_bit : goal.put_ite-requires-clause-one_bit
put_ite-requires-clause-one_bit c =
    let here = source_here c.args.nodes.now c.args.i c.args.source (IteOf c.in-IteOf.c c.in-IteOf.a c.in-IteOf.b) c.requires.inside c.requires.source c.in-IteOf.is in
    (chooses c.args.nodes.now c.args.spare.now c.args.i c.in-IteOf.c c.in-IteOf.a c.in-IteOf.b here.0 c.requires.well_formed c.requires.inside c.requires.long c.requires.frame here.1 here.2).one_bit

pub put_ite-requires-clause-widths : goal.put_ite-requires-clause-widths
put_ite-requires-clause-widths c =
    let here = source_here c.args.nodes.now c.args.i c.args.source (IteOf c.in-IteOf.c c.in-IteOf.a c.in-IteOf.b) c.requires.inside c.requires.source c.in-IteOf.is in
    (chooses c.args.nodes.now c.args.spare.now c.args.i c.in-IteOf.c c.in-IteOf.a c.in-IteOf.b here.0 c.requires.well_formed c.requires.inside c.requires.long c.requires.frame here.1 here.2).widths

pub returns-in-IteOf : goal.returns-in-IteOf
returns-in-IteOf c =
    let here = source_here c.args.nodes.now c.args.i c.args.source (IteOf c.in-IteOf.c c.in-IteOf.a c.in-IteOf.b) c.requires.inside c.requires.source c.in-IteOf.is in
    puts_ite c.args.nodes.now c.args.last.now c.args.supplied.now.inputs.now c.args.supplied.now.free.now c.args.spare.now c.args.i here.0 c.put_ite.new.row c.requires.well_formed c.requires.inside c.requires.long here.1 c.in-IteOf.c c.in-IteOf.a c.in-IteOf.b here.2 c.put_ite.ensures

pub put_and-requires-clause-first : goal.put_and-requires-clause-first
put_and-requires-clause-first c =
    let here = source_here c.args.nodes.now c.args.i c.args.source (AndOf c.in-AndOf.a c.in-AndOf.b) c.requires.inside c.requires.source c.in-AndOf.is in
    (joins c.args.nodes.now c.args.spare.now c.args.i And c.in-AndOf.a c.in-AndOf.b here.0 c.requires.well_formed c.requires.inside c.requires.long c.requires.frame here.1 here.2).first

pub put_and-requires-clause-second : goal.put_and-requires-clause-second
put_and-requires-clause-second c =
    let here = source_here c.args.nodes.now c.args.i c.args.source (AndOf c.in-AndOf.a c.in-AndOf.b) c.requires.inside c.requires.source c.in-AndOf.is in
    (joins c.args.nodes.now c.args.spare.now c.args.i And c.in-AndOf.a c.in-AndOf.b here.0 c.requires.well_formed c.requires.inside c.requires.long c.requires.frame here.1 here.2).second

pub put_and-requires-clause-fits : goal.put_and-requires-clause-fits
put_and-requires-clause-fits c =
    let here = source_here c.args.nodes.now c.args.i c.args.source (AndOf c.in-AndOf.a c.in-AndOf.b) c.requires.inside c.requires.source c.in-AndOf.is in
    (joins c.args.nodes.now c.args.spare.now c.args.i And c.in-AndOf.a c.in-AndOf.b here.0 c.requires.well_formed c.requires.inside c.requires.long c.requires.frame here.1 here.2).fits

pub returns-in-AndOf : goal.returns-in-AndOf
returns-in-AndOf c =
    let here = source_here c.args.nodes.now c.args.i c.args.source (AndOf c.in-AndOf.a c.in-AndOf.b) c.requires.inside c.requires.source c.in-AndOf.is in
    puts_joined c.args.nodes.now c.args.last.now c.args.supplied.now.inputs.now c.args.supplied.now.free.now c.args.spare.now c.args.i And c.in-AndOf.a c.in-AndOf.b here.0 c.put_and.new.row c.requires.well_formed c.requires.inside c.requires.long here.1 here.2 c.put_and.ensures

pub put_or-requires-clause-first : goal.put_or-requires-clause-first
put_or-requires-clause-first c =
    let here = source_here c.args.nodes.now c.args.i c.args.source (OrOf c.in-OrOf.a c.in-OrOf.b) c.requires.inside c.requires.source c.in-OrOf.is in
    (joins c.args.nodes.now c.args.spare.now c.args.i Or c.in-OrOf.a c.in-OrOf.b here.0 c.requires.well_formed c.requires.inside c.requires.long c.requires.frame here.1 here.2).first

pub put_or-requires-clause-second : goal.put_or-requires-clause-second
put_or-requires-clause-second c =
    let here = source_here c.args.nodes.now c.args.i c.args.source (OrOf c.in-OrOf.a c.in-OrOf.b) c.requires.inside c.requires.source c.in-OrOf.is in
    (joins c.args.nodes.now c.args.spare.now c.args.i Or c.in-OrOf.a c.in-OrOf.b here.0 c.requires.well_formed c.requires.inside c.requires.long c.requires.frame here.1 here.2).second

pub put_or-requires-clause-fits : goal.put_or-requires-clause-fits
put_or-requires-clause-fits c =
    let here = source_here c.args.nodes.now c.args.i c.args.source (OrOf c.in-OrOf.a c.in-OrOf.b) c.requires.inside c.requires.source c.in-OrOf.is in
    (joins c.args.nodes.now c.args.spare.now c.args.i Or c.in-OrOf.a c.in-OrOf.b here.0 c.requires.well_formed c.requires.inside c.requires.long c.requires.frame here.1 here.2).fits

pub returns-in-OrOf : goal.returns-in-OrOf
returns-in-OrOf c =
    let here = source_here c.args.nodes.now c.args.i c.args.source (OrOf c.in-OrOf.a c.in-OrOf.b) c.requires.inside c.requires.source c.in-OrOf.is in
    puts_joined c.args.nodes.now c.args.last.now c.args.supplied.now.inputs.now c.args.supplied.now.free.now c.args.spare.now c.args.i Or c.in-OrOf.a c.in-OrOf.b here.0 c.put_or.new.row c.requires.well_formed c.requires.inside c.requires.long here.1 here.2 c.put_or.ensures

pub put_eq-requires-clause-first : goal.put_eq-requires-clause-first
put_eq-requires-clause-first c =
    let here = source_here c.args.nodes.now c.args.i c.args.source (EqOf c.in-EqOf.a c.in-EqOf.b) c.requires.inside c.requires.source c.in-EqOf.is in
    (joins c.args.nodes.now c.args.spare.now c.args.i Eq c.in-EqOf.a c.in-EqOf.b here.0 c.requires.well_formed c.requires.inside c.requires.long c.requires.frame here.1 here.2).first

pub put_eq-requires-clause-second : goal.put_eq-requires-clause-second
put_eq-requires-clause-second c =
    let here = source_here c.args.nodes.now c.args.i c.args.source (EqOf c.in-EqOf.a c.in-EqOf.b) c.requires.inside c.requires.source c.in-EqOf.is in
    (joins c.args.nodes.now c.args.spare.now c.args.i Eq c.in-EqOf.a c.in-EqOf.b here.0 c.requires.well_formed c.requires.inside c.requires.long c.requires.frame here.1 here.2).second

pub returns-in-EqOf : goal.returns-in-EqOf
returns-in-EqOf c =
    let here = source_here c.args.nodes.now c.args.i c.args.source (EqOf c.in-EqOf.a c.in-EqOf.b) c.requires.inside c.requires.source c.in-EqOf.is in
    puts_joined c.args.nodes.now c.args.last.now c.args.supplied.now.inputs.now c.args.supplied.now.free.now c.args.spare.now c.args.i Eq c.in-EqOf.a c.in-EqOf.b here.0 c.put_eq.new.row c.requires.well_formed c.requires.inside c.requires.long here.1 here.2 c.put_eq.ensures

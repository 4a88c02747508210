use Rattle.std.proofs.Common.{false, [], sym, ◌∙◌}
use Rattle.btor_frames.proofs.Lines.{value_inside, reads_state}
use Rattle.btor_frames.specs.Steps.{supplied_at}
use Rattle.btor_frames.proofs.fill.state_word.Goals as goal

pub init_operand-requires-clause-there : goal.init_operand-requires-clause-there
init_operand-requires-clause-there c =
    let e = sym (c.in-Some.ensures ∙ c.requires.found.inits.at c.args.i c.requires.inside) in
    value_inside false c.args.nodes.now c.args.i c.in-Some.a c.requires.well_formed e

pub returns-in-Some : goal.returns-in-Some
returns-in-Some c =
    let e = sym (c.in-Some.ensures ∙ c.requires.found.inits.at c.args.i c.requires.inside) in
    c.init_operand.ensures
    ∙ reads_state false c.args.nodes.now [] c.args.spare.now c.args.i c.in-Some.a (supplied_at c.args.nodes.now c.args.supplied.now.inputs.now c.args.supplied.now.free.now c.args.i) c.requires.well_formed e

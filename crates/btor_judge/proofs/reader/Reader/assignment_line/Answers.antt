use Rattle.btor_judge.proofs.Turns.{at_states, at_input}
use Rattle.btor_judge.proofs.reader.Reader.assignment_line.Goals as goal

pub returns-in-States : goal.returns-in-States
returns-in-States c = λ lines r h.
    at_states lines c.args.self.now r c.args.index c.args.word c.state.result c.stage_of.result c.state.new.self h c.in-States.is c.state.ensures.widths (c.state.ensures.stated r.states h.states) c.stage_of.ensures

pub returns-in-Inputs : goal.returns-in-Inputs
returns-in-Inputs c = λ lines r h.
    at_input lines c.args.self.now r c.args.index c.args.word c.state-in-Inputs.result c.stage_of-in-Inputs.result c.state-in-Inputs.new.self h c.in-Inputs.is c.state-in-Inputs.ensures.widths (c.state-in-Inputs.ensures.stated r.inputs h.inputs) c.stage_of-in-Inputs.ensures

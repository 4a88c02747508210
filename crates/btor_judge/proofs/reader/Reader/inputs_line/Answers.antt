use Rattle.std.proofs.Common.{sym, subst}
use Rattle.btor_witness.specs.declared.phase.Phase.TheVariants as phase
use Rattle.btor_witness.specs.Reading.{Next}
use Rattle.btor_judge.specs.Standing.{Does}
use Rattle.btor_judge.proofs.Turns.{inputs_at, inputs_frame, at_inputs, other_inputs}
use Rattle.btor_judge.proofs.reader.Reader.inputs_line.Goals as goal

pub returns-in-Start : goal.returns-in-Start
returns-in-Start c = λ r h. inputs_at c.args.nodes.now c.args.self.now r c.args.number phase.Start h.0 c.in-Start.is

pub returns-in-Property : goal.returns-in-Property
returns-in-Property c = λ r h. inputs_at c.args.nodes.now c.args.self.now r c.args.number phase.Property h.0 c.in-Property.is

pub returns-then-number-self : goal.returns-then-number-self
returns-then-number-self c = λ r h. at_inputs c.args.nodes.now c.args.self.now r c.args.number h.0 c.in-States.is c.if-number-self.true

pub returns-else-number-self : goal.returns-else-number-self
returns-else-number-self c = λ r h.
    subst (λ (x : Next). Does c.args.nodes.now r x c.new_frame.new.self c.new_frame.result) (sym (other_inputs c.args.nodes.now c.args.self.now r c.args.number h.0 c.in-States.is c.if-number-self.false)) (c.new_frame.ensures r h)

pub returns-in_default : goal.returns-in_default
returns-in_default c = λ r h.
    subst (λ (x : Next). Does c.args.nodes.now r x c.new_frame-in_default.new.self c.new_frame-in_default.result) (sym (inputs_frame c.args.nodes.now c.args.self.now r c.args.number h.0 c.in_default.not-Start c.in_default.not-Property c.in_default.not-States)) (c.new_frame-in_default.ensures r h)

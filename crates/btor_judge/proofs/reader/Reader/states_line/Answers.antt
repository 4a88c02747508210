use Rattle.std.proofs.Common.{sym, subst}
use Rattle.btor_witness.specs.declared.phase.Phase.TheVariants as phase
use Rattle.btor_witness.specs.Reading.{Next}
use Rattle.btor_judge.specs.Standing.{Does}
use Rattle.btor_judge.proofs.Turns.{states_at, states_frame}
use Rattle.btor_judge.proofs.reader.Reader.states_line.Goals as goal

pub returns-in-Start : goal.returns-in-Start
returns-in-Start c = λ r h. states_at c.args.nodes.now c.args.self.now r c.args.number phase.Start h.0 c.in-Start.is

pub returns-in-Property : goal.returns-in-Property
returns-in-Property c = λ r h. states_at c.args.nodes.now c.args.self.now r c.args.number phase.Property h.0 c.in-Property.is

pub returns-in_default : goal.returns-in_default
returns-in_default c = λ r h.
    subst (λ (x : Next). Does c.args.nodes.now r x c.new_frame.new.self c.new_frame.result) (sym (states_frame c.args.nodes.now c.args.self.now r c.args.number h.0 c.in_default.not-Start c.in_default.not-Property)) (c.new_frame.ensures r h)

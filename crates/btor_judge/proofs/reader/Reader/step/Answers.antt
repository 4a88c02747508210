use Rattle.std.proofs.Common.{◌≡◌, ℕ, List, sym, subst}
use Rattle.btor_tree.specs.declared.lines.Line.{Line}
use Rattle.btor_witness.specs.declared.shape.Shape.{Shape}
use Rattle.btor_witness.specs.declared.shape.Shape.TheVariants.{Justice}
use Rattle.btor_witness.specs.Sizes.{sizes_of}
use Rattle.btor_witness.specs.Reading.{Reading, step}
use Rattle.btor_judge.specs.declared.reader.Reader.{Reader}
use Rattle.btor_judge.specs.declared.reader.Stage.{Stage}
use Rattle.btor_judge.specs.Standing.{Does}
use Rattle.btor_judge.proofs.reader.Reader.step.Goals as goal

justice : (lines : List Line) (r : Reading) (shape : Shape) (n : ℕ) (reader : Reader) (stage : Stage) → shape ≡ Justice n → ((k : ℕ) → Does lines r (step (sizes_of lines) r (Justice k)) reader stage) → Does lines r (step (sizes_of lines) r shape) reader stage
justice lines r shape n reader stage e h = subst (λ s. Does lines r (step (sizes_of lines) r s) reader stage) (sym e) (h n)

pub returns-in-Sat : goal.returns-in-Sat
returns-in-Sat c = λ r h. subst (λ (s : Shape). Does c.args.nodes.now r (step (sizes_of c.args.nodes.now) r s) c.sat_line.new.self c.sat_line.result) (sym c.in-Sat.is) (c.sat_line.ensures c.args.nodes.now r h.0)

pub returns-in-Property : goal.returns-in-Property
returns-in-Property c = λ r h. subst (λ (s : Shape). Does c.args.nodes.now r (step (sizes_of c.args.nodes.now) r s) c.property_line.new.self c.property_line.result) (sym c.in-Property.is) (c.property_line.ensures c.args.nodes.now r h.0)

pub returns-in-Justice : goal.returns-in-Justice
returns-in-Justice c = λ r h. justice c.args.nodes.now r c.args.shape _ c.args.self.now c.justice_line.result c.in-Justice.is (λ n. c.justice_line.ensures c.args.nodes.now r n h.0)

pub returns-in-States : goal.returns-in-States
returns-in-States c = λ r h. subst (λ (s : Shape). Does c.args.nodes.now r (step (sizes_of c.args.nodes.now) r s) c.states_line.new.self c.states_line.result) (sym c.in-States.is) (c.states_line.ensures r h)

pub returns-in-Inputs : goal.returns-in-Inputs
returns-in-Inputs c = λ r h. subst (λ (s : Shape). Does c.args.nodes.now r (step (sizes_of c.args.nodes.now) r s) c.inputs_line.new.self c.inputs_line.result) (sym c.in-Inputs.is) (c.inputs_line.ensures r h)

pub returns-in-End : goal.returns-in-End
returns-in-End c = λ r h. subst (λ (s : Shape). Does c.args.nodes.now r (step (sizes_of c.args.nodes.now) r s) c.end_line.new.self c.end_line.result) (sym c.in-End.is) (c.end_line.ensures r h)

pub returns-in-Assignment : goal.returns-in-Assignment
returns-in-Assignment c = λ r h. subst (λ (s : Shape). Does c.args.nodes.now r (step (sizes_of c.args.nodes.now) r s) c.assignment_line.new.self c.assignment_line.result) (sym c.in-Assignment.is) (c.assignment_line.ensures c.args.nodes.now r h.0)

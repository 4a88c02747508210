use Rattle.btor_judge.proofs.Turns.{at_property}
use Rattle.btor_judge.proofs.reader.Reader.property_line.Goals as goal

pub returns-else-number-self : goal.returns-else-number-self
returns-else-number-self c = λ lines r h. at_property lines c.args.self.now r c.args.number h c.in-Property.is c.if-number-self.false

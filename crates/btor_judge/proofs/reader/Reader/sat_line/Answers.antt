use Rattle.btor_judge.proofs.Turns.{at_sat}
use Rattle.btor_judge.proofs.reader.Reader.sat_line.Goals as goal

pub returns-in-Start : goal.returns-in-Start
returns-in-Start c = λ lines r h. at_sat lines c.args.self.now r h c.in-Start.is

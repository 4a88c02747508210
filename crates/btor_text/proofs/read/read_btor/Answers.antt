use Rattle.btor_text.proofs.Laws.{exact_from, stops_from}
use Rattle.btor_text.proofs.read.read_btor.Goals as goal

pub returns-clause-exact : goal.returns-clause-exact
returns-clause-exact c = exact_from c.args.text.now _ c.nodes_of.ensures.spelled c.nodes_of.ensures.refused

pub returns-clause-stops : goal.returns-clause-stops
returns-clause-stops c = stops_from c.args.text.now _ c.nodes_of.ensures.spelled c.nodes_of.ensures.refused

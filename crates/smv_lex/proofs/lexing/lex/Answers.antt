use Rattle.smv_lex.proofs.Fewer.{few_from}
use Rattle.smv_lex.proofs.Laws.{exact_from, stops_from}
use Rattle.smv_lex.proofs.lexing.lex.Goals as goal

pub returns-clause-exact : goal.returns-clause-exact
returns-clause-exact c = exact_from c.args.text.now _ c.tokens_of.ensures.lexed c.tokens_of.ensures.refused

pub returns-clause-stops : goal.returns-clause-stops
returns-clause-stops c = stops_from c.args.text.now _ c.tokens_of.ensures.lexed c.tokens_of.ensures.refused

pub returns-clause-few : goal.returns-clause-few
returns-clause-few c = few_from c.args.text.now _ c.tokens_of.ensures.lexed

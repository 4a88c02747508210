use Rattle.smv_grammar.proofs.Expressions as expressions
use Rattle.smv_grammar.proofs.expression_laws.one_tree.Goals as goal

pub returns : goal.returns
returns c = expressions.one_tree

use Rattle.smv_lex.proofs.Laws as laws
use Rattle.smv_lex.proofs.Answered.{answered}
use Rattle.smv_lex.proofs.lexing.one_lexing.Goals as goal

pub returns-clause-tokens : goal.returns-clause-tokens
returns-clause-tokens c = laws.one_lexing

pub returns-clause-refusal : goal.returns-clause-refusal
returns-clause-refusal c = laws.one_lex_refusal

pub returns-clause-apart : goal.returns-clause-apart
returns-clause-apart c = laws.not_both

pub returns-clause-total : goal.returns-clause-total
returns-clause-total c = answered

use Rattle.smv_lex.proofs.LexedAgain.{lexed_again, lexed_printable}
use Rattle.smv_lex.proofs.lexing.printed_is_lexed.Goals as goal

pub returns-clause-again : goal.returns-clause-again
returns-clause-again c ks p = lexed_again ks p

pub returns-clause-printable : goal.returns-clause-printable
returns-clause-printable c text ts l = lexed_printable text ts l

use Rattle.smv_lex.proofs.Spellings.{sign_read, word_read}
use Rattle.smv_lex.proofs.lexing.spellings_are_read.Goals as goal

pub returns-clause-signs : goal.returns-clause-signs
returns-clause-signs c = sign_read

pub returns-clause-words : goal.returns-clause-words
returns-clause-words c = word_read

use Rattle.smv_lex.proofs.WordBytes.{word_table}
use Rattle.smv_lex.proofs.scan.is_word_byte.Goals as goal

pub returns : goal.returns
returns c = word_table c.args.b c.ranges.b.fits

use Rattle.smv_print.proofs.Again.{expression_again}
use Rattle.smv_print.proofs.SourceAgain.{source_again}
use Rattle.smv_print.proofs.OneText.{one_text}
use Rattle.smv_print.proofs.printing.printed_spells.Goals as goal

pub returns-clause-expressions : goal.returns-clause-expressions
returns-clause-expressions c levels t xs ys s e = expression_again s ys e

pub returns-clause-sources : goal.returns-clause-sources
returns-clause-sources c = source_again

pub returns-clause-one_text : goal.returns-clause-one_text
returns-clause-one_text c = one_text

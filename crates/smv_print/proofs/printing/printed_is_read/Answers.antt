use Rattle.smv_print.proofs.PrintedAgain.{read_again}
use Rattle.smv_print.proofs.printing.printed_is_read.Goals as goal

pub returns : goal.returns
returns c = read_again c.printed_is_lexed.ensures.again c.printed_is_lexed.ensures.printable

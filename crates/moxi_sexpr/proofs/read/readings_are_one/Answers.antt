use Rattle.moxi_sexpr.proofs.Endings.{unclosed_place}
use Rattle.moxi_sexpr.proofs.Readable.{spelled_or_refused, read_printable, read_depth}
use Rattle.moxi_sexpr.proofs.Leading.{one_reading, one_end, no_reading}
use Rattle.moxi_sexpr.proofs.read.readings_are_one.Goals as goal

pub returns : goal.returns
returns c = record { forms = one_reading; refusals = one_end; never_both = no_reading; always_one = spelled_or_refused; unclosed = unclosed_place; printable = read_printable; depth = read_depth }

use Rattle.std.proofs.Common.{sym, ◌∙◌}
use Rattle.moxi_sexpr.specs.Printing.{reserved_words}
use Rattle.moxi_sexpr.proofs.Reserved.{none_reserved}
use Rattle.moxi_sexpr.proofs.print.is_reserved.Goals as goal

pub returns-then-may_be_reserved : goal.returns-then-may_be_reserved
unfolding reserved_words
returns-then-may_be_reserved c = c.is_among.ensures

pub returns-else-may_be_reserved : goal.returns-else-may_be_reserved
returns-else-may_be_reserved c = none_reserved c.args.name.now (sym c.may_be_reserved.ensures ∙ c.if-may_be_reserved.false)

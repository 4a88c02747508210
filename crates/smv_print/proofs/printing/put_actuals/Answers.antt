use Rattle.std.proofs.Common.{sym, ◌∙◌}
use Rattle.smv_print.proofs.Spaces.{some_actuals}
use Rattle.smv_print.proofs.printing.put_actuals.Goals as goal

pub returns : goal.returns
returns c = rw (some_actuals c.args.actuals.now (sym c.is_empty.ensures ∙ c.if-is_empty.false)) c.put_enclosed.ensures

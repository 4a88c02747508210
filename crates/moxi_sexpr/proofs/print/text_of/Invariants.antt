use Rattle.std.proofs.Common.{◌≡◌, ◌++◌, drop}
use Rattle.moxi_sexpr.specs.Tree.{plain_forms}
use Rattle.moxi_sexpr.specs.Printing.{printed_forms}
use Rattle.moxi_sexpr.proofs.print.text_of.Given as goal

abbrev pub invariant-loop-form : goal.invariant-loop-form
invariant-loop-form l = l.out ++ printed_forms (plain_forms (drop l.form-index l.forms.items)) ≡ printed_forms (plain_forms l.forms.items)

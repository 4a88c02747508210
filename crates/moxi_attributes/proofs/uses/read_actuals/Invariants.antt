use Rattle.std.proofs.Common.{◌≡◌, ◌++◌, ◌&&◌, drop}
use Rattle.moxi_sexpr.specs.Tree.{plain_forms}
use Rattle.moxi_scripts.specs.Collecting.{also}
use Rattle.moxi_scripts.specs.Declarations.{are_symbols}
use Rattle.moxi_scripts.specs.Uses.{actuals_failures, actuals_in}
use Rattle.moxi_attributes.proofs.uses.read_actuals.Given as goal

abbrev pub invariant-loop-form : goal.invariant-loop-form
invariant-loop-form l = record {
  symbols : (l.symbols && are_symbols (plain_forms (drop l.form-index l.forms))) ≡ are_symbols (plain_forms l.forms);
  adds : l.actuals ++ actuals_in l.locals (plain_forms (drop l.form-index l.forms)) ≡ l.fn.actuals ++ actuals_in l.locals (plain_forms l.forms);
  finds : also l.found (actuals_failures l.locals (plain_forms (drop l.form-index l.forms))) ≡ also l.fn.found (actuals_failures l.locals (plain_forms l.forms));
}

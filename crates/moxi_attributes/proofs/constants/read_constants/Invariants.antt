use Rattle.std.proofs.Common.{◌≡◌, ◌++◌, ◌&&◌, drop}
use Rattle.moxi_sexpr.specs.Tree.{plain_forms}
use Rattle.moxi_scripts.specs.Collecting.{also}
use Rattle.moxi_scripts.specs.Declarations.{are_symbols, constants_failures, symbols_in, with_constants}
use Rattle.moxi_attributes.proofs.constants.read_constants.Given as goal

abbrev pub invariant-loop-form : goal.invariant-loop-form
invariant-loop-form l = record {
  symbols : (l.symbols && are_symbols (plain_forms (drop l.form-index l.forms))) ≡ are_symbols (plain_forms l.forms);
  adds : l.constants ++ symbols_in (plain_forms (drop l.form-index l.forms)) ≡ l.fn.constants ++ symbols_in (plain_forms l.forms);
  names : with_constants l.scope l.names (plain_forms (drop l.form-index l.forms)) ≡ with_constants l.scope l.fn.names (plain_forms l.forms);
  finds : also l.found (constants_failures l.scope l.names (plain_forms (drop l.form-index l.forms))) ≡ also l.fn.found (constants_failures l.scope l.fn.names (plain_forms l.forms));
}

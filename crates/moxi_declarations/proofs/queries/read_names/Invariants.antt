use Rattle.std.proofs.Common.{◌≡◌, ◌&&◌, drop}
use Rattle.moxi_sexpr.specs.Tree.{plain_forms}
use Rattle.moxi_scripts.specs.Declarations.{are_symbols}
use Rattle.moxi_scripts.specs.Collecting.{also}
use Rattle.moxi_attributes.specs.Views.{plain_labels}
use Rattle.moxi_scripts.specs.QueryReading.{names_after, symbols_failures}
use Rattle.moxi_declarations.proofs.queries.read_names.Given as goal

abbrev pub invariant-loop-form : goal.invariant-loop-form
invariant-loop-form l = record {
  symbols : (l.symbols && are_symbols (plain_forms (drop l.form-index l.forms))) ≡ are_symbols (plain_forms l.forms);
  names : names_after (plain_labels l.ls) l.q (plain_forms (drop l.form-index l.forms)) ≡ names_after (plain_labels l.ls) l.fn.q (plain_forms l.forms);
  finds : also l.found (symbols_failures (plain_forms (drop l.form-index l.forms))) ≡ also l.fn.found (symbols_failures (plain_forms l.forms));
}

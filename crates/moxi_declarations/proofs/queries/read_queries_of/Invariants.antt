use Rattle.std.proofs.Common.{◌≡◌, ◌++◌, drop}
use Rattle.moxi_sexpr.specs.Tree.{plain_forms}
use Rattle.moxi_scripts.specs.Collecting.{also}
use Rattle.moxi_attributes.specs.Views.{plain_labels}
use Rattle.moxi_scripts.specs.QueryReading.{names_with_queries, queries_failures, queries_in}
use Rattle.moxi_declarations.proofs.queries.read_queries_of.Given as goal

abbrev pub invariant-loop-form : goal.invariant-loop-form
invariant-loop-form l = record {
  adds : l.queries ++ queries_in (plain_labels l.ls) (plain_forms (drop l.form-index l.forms)) ≡ l.fn.queries ++ queries_in (plain_labels l.ls) (plain_forms l.forms);
  names : names_with_queries l.names (plain_forms (drop l.form-index l.forms)) ≡ names_with_queries l.fn.names (plain_forms l.forms);
  finds : also l.found (queries_failures (plain_labels l.ls) l.names l.around (plain_forms (drop l.form-index l.forms))) ≡ also l.fn.found (queries_failures (plain_labels l.ls) l.fn.names l.around (plain_forms l.forms));
}

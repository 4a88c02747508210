use Rattle.std.proofs.Common.{◌≡◌, ◌++◌, [], drop}
use Rattle.moxi_sexpr.specs.Tree.{plain_forms}
use Rattle.moxi_scripts.specs.declared.parts.Turn.TheVariants.{AtKeyword}
use Rattle.moxi_scripts.specs.Collecting.{also}
use Rattle.moxi_attributes.specs.Views.{plain_labels}
use Rattle.moxi_scripts.specs.QueryReading.{all_queries_failures, queries_after}
use Rattle.moxi_declarations.proofs.queries.read_queries.Given as goal

abbrev pub invariant-loop-form : goal.invariant-loop-form
invariant-loop-form l = record {
  adds : l.queries ++ queries_after (plain_labels l.ls) l.turn (plain_forms (drop l.form-index l.forms)) ≡ l.fn.queries ++ queries_after (plain_labels l.ls) AtKeyword (plain_forms l.forms);
  finds : also l.found (all_queries_failures (plain_labels l.ls) l.names l.turn (plain_forms (drop l.form-index l.forms))) ≡ also l.fn.found (all_queries_failures (plain_labels l.ls) [] AtKeyword (plain_forms l.forms));
}

use Rattle.std.proofs.Common.{◌≡◌, ◌++◌, ◌&&◌, drop}
use Rattle.moxi_sexpr.specs.Tree.{plain_forms}
use Rattle.moxi_scripts.specs.Collecting.{also}
use Rattle.moxi_scripts.specs.Entries.{are_entries, entries_of, entries_failures}
use Rattle.moxi_attributes.proofs.entries.read_entries.Given as goal

abbrev pub invariant-loop-form : goal.invariant-loop-form
invariant-loop-form l = record {
  shaped : (l.shaped && are_entries (plain_forms (drop l.form-index l.forms))) ≡ are_entries (plain_forms l.forms);
  adds : l.all ++ entries_of l.scope (plain_forms (drop l.form-index l.forms)) ≡ l.fn.all ++ entries_of l.scope (plain_forms l.forms);
  finds : also l.found (entries_failures l.scope l.around (plain_forms (drop l.form-index l.forms))) ≡ also l.fn.found (entries_failures l.scope l.around (plain_forms l.forms));
}

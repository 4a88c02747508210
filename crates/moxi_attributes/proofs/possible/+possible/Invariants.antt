use Rattle.std.proofs.Common.{◌≡◌, ◌++◌, drop}
use Rattle.moxi_sexpr.specs.Tree.{plain_forms}
use Rattle.moxi_scripts.specs.Lists.{possible_among}
use Rattle.moxi_attributes.proofs.possible.+possible.Given as goal

abbrev pub invariant-add_forms-loop-form : goal.invariant-add_forms-loop-form
invariant-add_forms-loop-form l = l.entries ++ possible_among l.scope (plain_forms (drop l.form-index l.forms)) ≡ l.fn.entries ++ possible_among l.scope (plain_forms l.forms)

use Rattle.std.proofs.Common.{◌≡◌, ◌++◌, drop}
use Rattle.moxi_sexpr.specs.Tree.{plain_forms}
use Rattle.moxi_scripts.specs.declared.parts.Turn.TheVariants.{AtKeyword}
use Rattle.moxi_scripts.specs.Lists.{text_entries}
use Rattle.moxi_attributes.proofs.lists.text_entries.Given as goal

abbrev pub invariant-loop-form : goal.invariant-loop-form
invariant-loop-form l = l.text ++ text_entries l.lists l.command l.turn (plain_forms (drop l.form-index l.forms)) ≡ text_entries l.lists l.command AtKeyword (plain_forms l.forms)

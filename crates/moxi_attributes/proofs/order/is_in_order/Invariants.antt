use Rattle.std.proofs.Common.{◌≡◌, drop}
use Rattle.moxi_sexpr.specs.Tree.{plain_forms}
use Rattle.moxi_scripts.specs.declared.parts.Turn.TheVariants.{AtKeyword}
use Rattle.moxi_scripts.specs.Lists.{all_entries, text_entries}
use Rattle.moxi_attributes.specs.Order.{entries_from}
use Rattle.moxi_attributes.proofs.order.is_in_order.Given as goal

-- what is to come decides
abbrev pub invariant-loop-form : goal.invariant-loop-form
invariant-loop-form l =
    text_entries l.lists l.command l.turn (plain_forms (drop l.form-index l.forms)) ≡ entries_from l.lists l.next → text_entries l.lists l.command AtKeyword (plain_forms l.forms) ≡ all_entries l.lists

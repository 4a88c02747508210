use Rattle.std.proofs.Common.{◌≡◌, ◌+◌, ◌≤◌, drop}
use Rattle.moxi_sexpr.specs.Tree.{plain_forms}
use Rattle.moxi_scripts.specs.Attributes.{count_of}
use Rattle.moxi_scripts.specs.declared.parts.Turn.TheVariants.{AtKeyword}
use Rattle.moxi_attributes.proofs.attributes.count_of.Given as goal

abbrev pub invariant-loop-form : goal.invariant-loop-form
invariant-loop-form l = record {
  counts : l.count + count_of l.command l.k l.turn (plain_forms (drop l.form-index l.forms)) ≡ count_of l.command l.k AtKeyword (plain_forms l.forms);
  small : l.count ≤ l.form-index;
}

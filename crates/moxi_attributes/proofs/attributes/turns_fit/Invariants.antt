use Rattle.std.proofs.Common.{◌≡◌, drop}
use Rattle.moxi_sexpr.specs.Tree.{plain_forms}
use Rattle.moxi_scripts.specs.Attributes.{turns_fit}
use Rattle.moxi_scripts.specs.declared.parts.Turn.TheVariants.{AtKeyword}
use Rattle.moxi_attributes.proofs.attributes.turns_fit.Given as goal

abbrev pub invariant-loop-form : goal.invariant-loop-form
invariant-loop-form l = turns_fit l.command l.turn (plain_forms (drop l.form-index l.forms)) ≡ turns_fit l.command AtKeyword (plain_forms l.forms)

use Rattle.std.proofs.Common.{◌≡◌, drop}
use Rattle.moxi_sexpr.specs.Tree.{plain_forms}
use Rattle.moxi_scripts.specs.Collecting.{also}
use Rattle.moxi_scripts.specs.Attributes.{unknown_failures}
use Rattle.moxi_scripts.specs.declared.parts.Turn.TheVariants.{AtKeyword}
use Rattle.moxi_attributes.proofs.attributes.test_keywords.Given as goal

abbrev pub invariant-loop-form : goal.invariant-loop-form
invariant-loop-form l = also l.found (unknown_failures l.command l.turn (plain_forms (drop l.form-index l.forms))) ≡ also l.fn.found (unknown_failures l.command AtKeyword (plain_forms l.forms))

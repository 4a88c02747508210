use Rattle.std.proofs.Common.{◌≡◌, ◌++◌, [], drop}
use Rattle.moxi_sexpr.specs.Tree.{plain_forms}
use Rattle.moxi_scripts.specs.declared.parts.Turn.TheVariants.{AtKeyword}
use Rattle.moxi_scripts.specs.Collecting.{also}
use Rattle.moxi_scripts.specs.Uses.{uses_failures, uses_in}
use Rattle.moxi_attributes.proofs.uses.read_uses.Given as goal

abbrev pub invariant-loop-form : goal.invariant-loop-form
invariant-loop-form l = record {
  adds : l.uses ++ uses_in l.locals l.turn (plain_forms (drop l.form-index l.forms)) ≡ l.fn.uses ++ uses_in l.locals AtKeyword (plain_forms l.forms);
  finds : also l.found (uses_failures l.locals l.names l.turn (plain_forms (drop l.form-index l.forms))) ≡ also l.fn.found (uses_failures l.locals [] AtKeyword (plain_forms l.forms));
}

use Rattle.std.proofs.Common.{◌≡◌, map}
use Rattle.moxi_terms.specs.View.{plain}
use Rattle.smv_script.specs.Script.{parts_upto}
use Rattle.smv_flat.specs.FlatParts.{parts_plain}
use Rattle.smv_script_terms.specs.Questions.{codes_of}
use Rattle.smv_script_terms.proofs.formulas.parts_of.Given as goal

abbrev pub invariant-loop-i : goal.invariant-loop-i
invariant-loop-i l = map plain l.all.items ≡ parts_upto (parts_plain l.flat.parts) (codes_of l.coding) l.when l.i

use Rattle.std.proofs.Common.{◌≡◌, ◌++◌, drop, map}
use Rattle.smv_script_terms.specs.Parts.{form_number}
use Rattle.smv_script_terms.proofs.formulas.form_chains.Given as goal

abbrev pub invariant-loop-form : goal.invariant-loop-form
invariant-loop-form l = l.numbers.items ++ map form_number (drop l.form-index l.formulas) ≡ map form_number l.formulas

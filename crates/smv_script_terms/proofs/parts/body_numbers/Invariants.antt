use Rattle.std.proofs.Common.{◌≡◌, ◌++◌, drop, map}
use Rattle.smv_script_terms.specs.Parts.{body_number_of}
use Rattle.smv_script_terms.proofs.parts.body_numbers.Given as goal

abbrev pub invariant-loop-form : goal.invariant-loop-form
invariant-loop-form l = l.numbers.items ++ map (body_number_of l.none) (drop l.form-index l.formulas) ≡ map (body_number_of l.none) l.formulas

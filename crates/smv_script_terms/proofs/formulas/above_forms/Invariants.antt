use Rattle.std.proofs.Common.{◌≡◌, drop, map, max}
use Rattle.smv_flat.specs.FlatFormulas.{form_plain}
use Rattle.smv_script.specs.Script.{above_forms}
use Rattle.smv_script_terms.proofs.formulas.above_forms.Given as goal

abbrev pub invariant-loop-form : goal.invariant-loop-form
invariant-loop-form l = max l.most (above_forms (map form_plain (drop l.form-index l.formulas))) ≡ above_forms (map form_plain l.formulas)

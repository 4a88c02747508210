use Rattle.std.proofs.Common.{◌≡◌, ◌≤◌, drop, map, max}
use Rattle.smv_flat.specs.FlatFormulas.{form_plain}
use Rattle.smv_flat.specs.FlatWidth.{forms_width}
use Rattle.smv_width.proofs.width.forms_width.Given as goal

abbrev pub invariant-loop-formula : goal.invariant-loop-formula
invariant-loop-formula l = record {
  value : max l.width (forms_width (map form_plain (drop l.formula-index l.formulas))) ≡ forms_width (map form_plain l.formulas);
  bound : l.width ≤ 64;
}

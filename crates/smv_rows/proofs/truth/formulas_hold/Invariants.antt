use Rattle.std.proofs.Common.{◌≡◌, drop, map}
use Rattle.smv_flat.specs.FlatFormulas.{form_plain}
use Rattle.smv_flat_evaluation.specs.RowValues.{row_values}
use Rattle.smv_flat_evaluation.specs.FlatSafety.{FormsSafe}
use Rattle.smv_flat.specs.FlatParts.{parts_plain}
use Rattle.smv_rows.specs.Truths.{row_forms_hold}
use Rattle.smv_rows.proofs.truth.formulas_hold.Given as goal

abbrev pub invariant-loop-formula : goal.invariant-loop-formula
invariant-loop-formula l = record {
  safe : FormsSafe (parts_plain l.flat) (row_values l.now) (row_values l.later) (map form_plain (drop l.formula-index l.formula-items));
  same : row_forms_hold l.flat.symbols.now l.when l.target l.now l.later (map form_plain (drop l.formula-index l.formula-items)) ≡ row_forms_hold l.flat.symbols.now l.when l.target l.now l.later (map form_plain l.flat.formulas.now);
}

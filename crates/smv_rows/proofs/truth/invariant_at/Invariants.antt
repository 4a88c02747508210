use Rattle.std.proofs.Common.{◌≡◌, drop, map}
use Rattle.std.specs.List.{slice_get}
use Rattle.smv_flat.specs.FlatFormulas.{form_plain}
use Rattle.smv_flat.specs.FlatTruth.{forms_invariants}
use Rattle.smv_rows.proofs.truth.invariant_at.Given as goal

abbrev pub invariant-loop-formula : goal.invariant-loop-formula
invariant-loop-formula l = slice_get (forms_invariants (map form_plain (drop l.formula-index l.formulas))) l.left ≡ slice_get (forms_invariants (map form_plain l.formulas)) l.fn.j

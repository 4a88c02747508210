use Rattle.std.proofs.Common.{◌≡◌, ◌++◌, drop, length, map}
use Rattle.smv_flat.specs.FlatFormulas.{form_plain}
use Rattle.smv_flat.specs.FlatTruth.{forms_invariants}
use Rattle.smv_script.specs.Script.{queries_from}
use Rattle.smv_to_moxi.proofs.script.queries_of.Given as goal

abbrev pub invariant-loop-form : goal.invariant-loop-form
invariant-loop-form l = l.all ++ queries_from (length l.all) (forms_invariants (map form_plain (drop l.form-index l.formulas)))
    ≡ queries_from 0 (forms_invariants (map form_plain l.formulas))

use Rattle.std.proofs.Common.{◌≡◌, ◌++◌, drop, length, map}
use Rattle.moxi_scripts.specs.Script.{plain_formula}
use Rattle.smv_flat.specs.FlatFormulas.{form_plain}
use Rattle.smv_flat.specs.FlatTruth.{forms_invariants}
use Rattle.smv_script.specs.Script.{reachables_from}
use Rattle.smv_script_terms.specs.Questions.{codes_of}
use Rattle.smv_to_moxi.proofs.script.reachables_of.Given as goal

abbrev pub invariant-loop-form : goal.invariant-loop-form
invariant-loop-form l = map plain_formula l.all ++ reachables_from (codes_of l.coding) (length l.all) (forms_invariants (map form_plain (drop l.form-index l.formulas)))
    ≡ reachables_from (codes_of l.coding) 0 (forms_invariants (map form_plain l.formulas))

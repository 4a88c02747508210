use Rattle.std.proofs.Common.{◌-◌, ◌++◌, length, map}
use Rattle.moxi_terms.specs.View.{plain}
use Rattle.smv_flat.specs.FlatFormulas.{form_plain}
use Rattle.smv_script_terms.specs.Parts.{form_number, form_owned, owned_by}
use Rattle.smv_script_terms.specs.Questions.{codes_of}
use Rattle.smv_script_terms.proofs.Walked.{Walks}
use Rattle.smv_script_terms.proofs.formulas.add_forms.Given as goal

abbrev pub invariant-formulas : goal.invariant-formulas
invariant-formulas l =
    let os = map (form_owned (codes_of l.coding) l.when) (map form_plain l.flat.parts.formulas.now) in
    Walks (map form_number l.flat.parts.formulas.now) l.i os (map plain l.all.items) (map plain l.fn.all.items ++ owned_by l.i os) l.j

abbrev pub decreases-formulas : goal.decreases-formulas
decreases-formulas l = length l.flat.parts.formulas.now - l.j

use Rattle.std.proofs.Common.{◌-◌, ◌++◌, length, map}
use Rattle.moxi_terms.specs.View.{plain}
use Rattle.smv_flat.specs.FlatFormulas.{form_plain}
use Rattle.smv_script_terms.specs.Parts.{body_number_of, body_owned, owned_by}
use Rattle.smv_script_terms.specs.Questions.{codes_of}
use Rattle.smv_script_terms.proofs.Walked.{Walks}
use Rattle.smv_script_terms.proofs.parts.add_bodies.Given as goal

abbrev pub invariant-bodies : goal.invariant-bodies
invariant-bodies l =
    let os = map (body_owned (length l.flat.parts.items.now) (codes_of l.coding)) (map form_plain l.flat.parts.formulas.now) in
    Walks (map (body_number_of (length l.flat.parts.items.now)) l.flat.parts.formulas.now) l.k os (map plain l.all.items) (map plain l.fn.all.items ++ owned_by l.k os) l.j

abbrev pub decreases-bodies : goal.decreases-bodies
decreases-bodies l = length l.flat.parts.formulas.now - l.j

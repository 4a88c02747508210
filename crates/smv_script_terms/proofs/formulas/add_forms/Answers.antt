use Rattle.std.proofs.Common.{arith, map, refl}
use Rattle.moxi_terms.specs.View.{plain}
use Rattle.smv_flat.specs.FlatFormulas.{form_plain}
use Rattle.smv_script_terms.specs.FlatChains.{instance_count}
use Rattle.smv_script_terms.specs.Parts.{form_number, form_owned}
use Rattle.smv_script_terms.specs.Questions.{codes_of}
use Rattle.smv_script_terms.proofs.Depths.{form_within}
use Rattle.smv_script_terms.proofs.InRange.{form_range_within}
use Rattle.smv_script_terms.proofs.Walked.{walk_starts}
use Rattle.smv_script_terms.proofs.Formed.{form_numbers, forms_go_on}
use Rattle.smv_script_terms.proofs.formulas.add_forms.Goals as goal

pub formulas-init : goal.formulas-init
formulas-init c =
    let g = form_owned (codes_of c.args.coding.now) c.args.when in
    let formulas = c.args.flat.now.parts.formulas.now in
    let s = c.args.chains.now.formulas in
    walk_starts (map g (map form_plain formulas)) (map form_number formulas) s.firsts.items s.nexts.items (instance_count c.args.flat.now.parts) c.args.i c.first-j.result (map plain c.args.all.now.items)
    (form_numbers g form_number formulas (λ f. refl)) c.requires.chains.formulas c.requires.number c.first-j.ensures

pub formulas-preserved : goal.formulas-preserved
formulas-preserved c =
    let g = form_owned (codes_of c.args.coding.now) c.args.when in
    let s = c.args.chains.now.formulas in
    forms_go_on g form_number c.args.flat.now.parts.formulas.now s.firsts.items s.nexts.items (instance_count c.args.flat.now.parts) c.args.i c.formulas.j c.next-j.result c.index-flat-j.result (map plain c.formulas.all.items) (map plain c.add_form.new.all.items) _
    (λ f. refl) c.requires.chains.formulas c.requires.number c.formulas-test.true c.index-flat-j.is c.in_ok-add_form.ensures c.next-j.ensures c.formulas.invariant

pub add_form-requires : goal.add_form-requires
add_form-requires c =
    let formulas = c.args.flat.now.parts.formulas.now in
    let d = form_within formulas c.formulas.j c.index-flat-j.result c.formulas-test.true in
    let r = form_range_within formulas c.formulas.j c.index-flat-j.result c.formulas-test.true in
    let l = c.args.flat.now.low in
    let g = c.args.flat.now.in_range in
    record { deep = omega (arith, d, l); in_range = omega (arith, r, g) }

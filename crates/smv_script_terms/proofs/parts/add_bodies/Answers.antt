use Rattle.std.proofs.Common.{arith, length, map, refl}
use Rattle.moxi_terms.specs.View.{plain}
use Rattle.smv_flat.specs.FlatFormulas.{form_plain}
use Rattle.smv_script_terms.specs.Parts.{body_number_of, body_owned}
use Rattle.smv_script_terms.specs.Questions.{codes_of}
use Rattle.smv_script_terms.proofs.Depths.{form_within}
use Rattle.smv_script_terms.proofs.InRange.{form_range_within}
use Rattle.smv_script_terms.proofs.Walked.{walk_starts}
use Rattle.smv_script_terms.proofs.Formed.{bodies_end, form_numbers, forms_go_on}
use Rattle.smv_script_terms.proofs.parts.add_bodies.Goals as goal

pub bodies-init : goal.bodies-init
bodies-init c =
    let count = length c.args.flat.now.parts.items.now in
    let g = body_owned count (codes_of c.args.coding.now) in
    let formulas = c.args.flat.now.parts.formulas.now in
    let s = c.args.bodies.now in
    walk_starts (map g (map form_plain formulas)) (map (body_number_of count) formulas) s.firsts.items s.nexts.items count c.args.k c.first-j.result (map plain c.args.all.now.items)
    (form_numbers g (body_number_of count) formulas (λ f. refl)) c.requires.bodies c.requires.number c.first-j.ensures

pub bodies-preserved : goal.bodies-preserved
bodies-preserved c =
    let count = length c.args.flat.now.parts.items.now in
    let g = body_owned count (codes_of c.args.coding.now) in
    let s = c.args.bodies.now in
    forms_go_on g (body_number_of count) c.args.flat.now.parts.formulas.now s.firsts.items s.nexts.items count c.args.k c.bodies.j c.next-j.result c.index-flat-j.result (map plain c.bodies.all.items) (map plain c.add_body.new.all.items) _
    (λ f. refl) c.requires.bodies c.requires.number c.bodies-test.true c.index-flat-j.is c.in_ok-add_body.ensures c.next-j.ensures c.bodies.invariant

pub returns : goal.returns
returns c =
    bodies_end (length c.args.flat.now.parts.items.now) c.args.k c.bodies.j (codes_of c.args.coding.now) c.args.flat.now.parts.formulas.now (map plain c.bodies.all.items) (map plain c.args.all.now.items) c.bodies-test.false c.bodies.invariant

pub add_body-requires : goal.add_body-requires
add_body-requires c =
    let formulas = c.args.flat.now.parts.formulas.now in
    let d = form_within formulas c.bodies.j c.index-flat-j.result c.bodies-test.true in
    let r = form_range_within formulas c.bodies.j c.index-flat-j.result c.bodies-test.true in
    let l = c.args.flat.now.low in
    let g = c.args.flat.now.in_range in
    record { deep = omega (arith, d, l); in_range = omega (arith, r, g) }

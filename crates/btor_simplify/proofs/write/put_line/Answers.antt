use Rattle.std.proofs.Common.{◌+◌, ◌++◌, ◌∷◌, [], length, refl, ap, sym, subst, ◌∙◌, arith}
use Rattle.std.proofs.lemmas.Option.{slice_get_read}
use Rattle.btor_tree.specs.declared.lines.Line.{Line}
use Rattle.btor_tree.specs.Fits.{Fits}
use Rattle.btor_tree.proofs.Grows.{slice_get_inside}
use Rattle.btor_simplify.specs.Written.{IsWritten}
use Rattle.btor_simplify.proofs.Ordering.{places_few, ok_one_so}
use Rattle.btor_simplify.proofs.Writing.{line_there, can_write, fits_line, written_push}
use Rattle.btor_simplify.proofs.write.put_line.Goals as goal

pub at-requires : goal.at-requires
at-requires c =
    let placed = slice_get_read c.args.order.now.places.items (length c.args.order.now.places.items) c.args.q c.index.result.now refl c.requires.inside c.index.ensures in
    let there = line_there c.args.nodes.now c.args.fates.now c.args.order.now.places.items c.args.order.now.moved.items c.requires.order c.index.result.now c.args.q (c.requires.order.forward c.args.q c.index.result.now placed) in
    slice_get_inside c.args.nodes.now c.index.result.now there.0 there.1

pub new_line-requires-clause-few : goal.new_line-requires-clause-few
new_line-requires-clause-few c =
    omega (arith, c.requires.inside, places_few c.args.nodes.now c.args.fates.now (length c.args.nodes.now) c.args.order.now.places.items c.args.order.now.moved.items c.requires.known c.requires.order)

pub new_line-requires-clause-inside : goal.new_line-requires-clause-inside
new_line-requires-clause-inside c =
    omega (arith, c.requires.known.sized, slice_get_inside c.args.nodes.now c.index.result.now c.at.result.now c.at.ensures)

pub new_line-requires-clause-can : goal.new_line-requires-clause-can
new_line-requires-clause-can c = can_write c.args.nodes.now c.args.fates.now c.index.result.now c.at.result.now c.requires.known c.at.ensures

pub add-requires : goal.add-requires
add-requires c =
    let placed = slice_get_read c.args.order.now.places.items (length c.args.order.now.places.items) c.args.q c.index.result.now refl c.requires.inside c.index.ensures in
    subst (Fits c.args.lines.now) (sym c.in_ok-line.ensures)
    (fits_line c.args.nodes.now c.args.fates.now c.args.order.now.places.items c.args.order.now.moved.items c.requires.known c.requires.order c.args.q c.args.lines.now c.requires.written c.index.result.now c.at.result.now placed c.at.ensures)

pub returns : goal.returns
returns c =
    let placed = slice_get_read c.args.order.now.places.items (length c.args.order.now.places.items) c.args.q c.index.result.now refl c.requires.inside c.index.ensures in
    let done = written_push c.args.nodes.now c.args.fates.now c.args.order.now.places.items c.args.order.now.moved.items c.requires.known c.requires.order c.args.q c.args.lines.now c.requires.written c.index.result.now c.at.result.now placed c.at.ensures in
    ok_one_so c.add.result _ _ (λ e. subst (IsWritten c.args.nodes.now c.args.fates.now c.args.order.now.places.items c.args.order.now.moved.items (c.args.q + 1)) (sym (e ∙ ap (λ (x : Line). c.args.lines.now ++ x ∷ []) c.in_ok-line.ensures)) done) c.add.ensures.ok

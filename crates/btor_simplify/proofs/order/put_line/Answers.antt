use Rattle.std.proofs.Common.{arith, ◌++◌, ◌∷◌, [], sym, ap, ◌∙◌}
use Rattle.btor_simplify.specs.Order.{with_line}
use Rattle.btor_tree.proofs.Grows.{lines_short}
use Rattle.btor_simplify.proofs.Ordering.{order_line, ok_both, ok_one_so, places_few}
use Rattle.btor_simplify.proofs.order.put_line.Goals as goal

pub returns-clause-order : goal.returns-clause-order
returns-clause-order c =
    ok_both c.put.result _ _ _ (λ p m. (order_line c.args.nodes.now c.args.fates.now c.args.marks.now c.args.i c.at.result.now c.put_sort_of.new.order.places.items c.put.new.order.places.items c.put_sort_of.new.order.moved.items c.put.new.order.moved.items
    c.requires.known c.requires.marks c.at.ensures c.requires.marked c.in_ok-put_sort_of.ensures.order (λ i h e. let g = c.requires.moved i h e in (g.0, c.in_ok-put_sort_of.ensures.keeps i g.0 g.1)) c.in_ok-put_sort_of.ensures.there p m).0) c.put.ensures.places c.put.ensures.moved

pub returns-clause-moved : goal.returns-clause-moved
returns-clause-moved c =
    ok_both c.put.result _ _ _ (λ p m. (order_line c.args.nodes.now c.args.fates.now c.args.marks.now c.args.i c.at.result.now c.put_sort_of.new.order.places.items c.put.new.order.places.items c.put_sort_of.new.order.moved.items c.put.new.order.moved.items
    c.requires.known c.requires.marks c.at.ensures c.requires.marked c.in_ok-put_sort_of.ensures.order (λ i h e. let g = c.requires.moved i h e in (g.0, c.in_ok-put_sort_of.ensures.keeps i g.0 g.1)) c.in_ok-put_sort_of.ensures.there p m).1) c.put.ensures.places c.put.ensures.moved

pub put-requires-clause-few : goal.put-requires-clause-few
put-requires-clause-few c =
    omega (arith, places_few c.args.nodes.now c.args.fates.now c.args.i c.put_sort_of.new.order.places.items c.put_sort_of.new.order.moved.items c.requires.known c.in_ok-put_sort_of.ensures.order)

pub overflow_cast-i : goal.overflow_cast-i
overflow_cast-i c = omega (arith, lines_short c.args.nodes.now c.requires.known.well_formed, c.requires.inside)

pub returns-clause-placed : goal.returns-clause-placed
returns-clause-placed c =
    let places = c.args.order.now.places.items in
    ok_one_so c.put.result _ _ (λ p. p ∙ ap (λ xs. xs ++ c.args.i ∷ []) c.in_ok-put_sort_of.ensures.placed ∙ sym (ap (λ o. with_line c.args.fates.now c.args.i o places) c.at.ensures)) c.put.ensures.places

use Rattle.std.proofs.Common.{arith, ap, sym, ◌∙◌, get_or, None}
use Rattle.btor_simplify.proofs.Ordering.{places_few, order_sort, sort_there, ok_both, ok_one_so, place_put, place_known, not_in, found_in}
use Rattle.btor_simplify.proofs.order.put_sort.Goals as goal

pub put-requires-clause-few : goal.put-requires-clause-few
put-requires-clause-few c =
    omega (arith, places_few c.args.nodes.now c.args.fates.now c.args.n c.args.order.now.places.items c.args.order.now.moved.items c.requires.known c.requires.order)

pub returns-in-None-clause-order : goal.returns-in-None-clause-order
returns-in-None-clause-order c =
    ok_both c.put.result _ _ _ (λ p m. order_sort c.args.nodes.now c.args.fates.now c.args.n c.args.order.now.places.items c.put.new.order.places.items c.args.order.now.moved.items c.put.new.order.moved.items c.args.s c.requires.known c.requires.order c.requires.sort (ap (λ xs. get_or xs c.args.s None) (sym c.deref.ensures.value) ∙ sym c.new_place.ensures ∙ c.in-None.is) p m) c.put.ensures.places c.put.ensures.moved

pub returns-in-None-clause-there : goal.returns-in-None-clause-there
returns-in-None-clause-there c =
    ok_both c.put.result _ _ _ (λ p m. sort_there c.args.nodes.now c.args.fates.now c.args.n c.args.order.now.places.items c.args.order.now.moved.items c.put.new.order.moved.items c.args.s c.requires.order c.requires.sort (ap (λ xs. get_or xs c.args.s None) (sym c.deref.ensures.value) ∙ sym c.new_place.ensures ∙ c.in-None.is) m) c.put.ensures.places c.put.ensures.moved

pub returns-in-None-clause-placed : goal.returns-in-None-clause-placed
returns-in-None-clause-placed c =
    let places = c.args.order.now.places.items in
    let free = ap (λ xs. get_or xs c.args.s None) (sym c.deref.ensures.value) ∙ sym c.new_place.ensures ∙ c.in-None.is in
    ok_one_so c.put.result _ _ (λ p. place_put places c.put.new.order.places.items c.args.s (not_in places c.args.order.now.moved.items c.args.s c.requires.order.forward free) p) c.put.ensures.places

pub returns-in-Some-clause-placed : goal.returns-in-Some-clause-placed
returns-in-Some-clause-placed c =
    let places = c.args.order.now.places.items in
    let there = ap (λ xs. get_or xs c.args.s None) (sym c.deref.ensures.value) ∙ sym c.new_place.ensures ∙ c.in-Some.is in
    place_known places c.args.s (found_in places c.in-Some.field-0 c.args.s (c.requires.order.back c.args.s c.in-Some.field-0 there))

use Rattle.std.proofs.Common.{◌≡◌, true, false, cond, sym, ap, subst, ◌∙◌}
use Rattle.btor_simplify.specs.Order.{has_sort, IsLiveSort, HasPlace, with_place}
use Rattle.btor_simplify.specs.Fates.{sort_for}
use Rattle.btor_simplify.proofs.Ordering.{sort_of_line, ok_one_so}
use Rattle.btor_simplify.proofs.order.put_sort_of.Goals as goal

pub sort_for-requires : goal.sort_for-requires
sort_for-requires c =
    (sort_of_line c.args.nodes.now c.args.fates.now c.args.i c.args.line.now c.requires.known c.requires.at (sym c.has_sort.ensures ∙ c.if-has_sort.true)).inside

pub put_sort-requires-clause-sort : goal.put_sort-requires-clause-sort
put_sort-requires-clause-sort c =
    subst (IsLiveSort c.args.nodes.now c.args.fates.now) (sym c.sort_for.ensures)
    (sort_of_line c.args.nodes.now c.args.fates.now c.args.i c.args.line.now c.requires.known c.requires.at (sym c.has_sort.ensures ∙ c.if-has_sort.true)).live

pub returns-then-has_sort-clause-there : goal.returns-then-has_sort-clause-there
returns-then-has_sort-clause-there c =
    ok_one_so c.put_sort.result _ _ (λ h t. subst (HasPlace c.put_sort.new.order.moved.items) c.sort_for.ensures h) c.put_sort.ensures.there

pub returns-then-has_sort-clause-placed : goal.returns-then-has_sort-clause-placed
returns-then-has_sort-clause-placed c =
    let places = c.args.order.now.places.items in
    let fates = c.args.fates.now in
    let l = c.args.line.now in
    let h : has_sort l.op ≡ true = sym c.has_sort.ensures ∙ c.if-has_sort.true in
    ok_one_so c.put_sort.result _ _ (λ p. p ∙ ap (with_place places) c.sort_for.ensures ∙ sym (ap (λ b. cond b (with_place places (sort_for fates l.sort)) places) h)) c.put_sort.ensures.placed

pub returns-else-has_sort-clause-placed : goal.returns-else-has_sort-clause-placed
returns-else-has_sort-clause-placed c =
    let places = c.args.order.now.places.items in
    let fates = c.args.fates.now in
    let l = c.args.line.now in
    let h : has_sort l.op ≡ false = sym c.has_sort.ensures ∙ c.if-has_sort.false in
    sym (ap (λ b. cond b (with_place places (sort_for fates l.sort)) places) h)

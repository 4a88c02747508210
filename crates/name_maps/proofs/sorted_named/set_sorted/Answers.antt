use Rattle.std.proofs.Common.{◌==◌, ◌&&◌, if◌then◌else◌, Some, bytes_eq, sym, ap, ◌∙◌, rules}
use Rattle.name_maps.specs.Sorted.{sorted_named}
use Rattle.name_maps.proofs.SortedLemmas.{name_more}
use Rattle.name_maps.proofs.sorted_named.set_sorted.Goals as goal

pub returns-in_ok-insert-in-Some : goal.returns-in_ok-insert-in-Some
returns-in_ok-insert-in-Some g c = λ j y.
    let a = c.args in
    let more = c.insert.new.self in
    name_more a.others.now (c.get_mut.follows.lender more) a.i c.in-Some.names.now more c.in_ok-name.name.items a.value (sym c.in-Some.ensures.value) c.in_ok-insert-in-Some.ensures.updates ((c.get_mut.follows.holds more).3 (search rules)).0 j y
    ∙ ap (λ bs. if a.i == j && bytes_eq bs y then Some a.value else sorted_named a.others.now j y) (c.in_ok-name.ensures.items_if_clones_equal (λ p q h. h))

use Rattle.std.proofs.Common.{◌≡◌, ◌+◌, true, List, drop, length, is_some, refl, sym, subst}
use Rattle.name_maps.specs.Names.{place_of}
use Rattle.smv_meaning.specs.laws.Lists.{front_is, end_is}
use Rattle.smv_items.specs.declared.items.FlatItem.{FlatItem}
use Rattle.smv_rows.specs.Places.{AreNamed}
use Rattle.smv_rows.proofs.Named.{NamesOn, names_on, declared_keeps, declared_is}
use Rattle.smv_rows.proofs.places.name_all.Goals as goal

pub loop-item-preserved : goal.loop-item-preserved
loop-item-preserved c =
    let old = c.loop-item.names in
    let new = c.declare.new.self in
    let name = c.bytes.result.now in
    let split = front_is c.args.items.now c.loop-item.item-index (length c.args.items.now) c.item-item.result refl c.loop-item-test.true c.item-item.is in
    let keeps = declared_keeps old new name c.in_ok-declare.field-0 c.in_ok-declare.ensures.names in
    let is : is_some (place_of new c.item-item.result.name) ≡ true =
    subst (λ n. is_some (place_of new n) ≡ true) c.bytes.ensures (declared_is old new name c.in_ok-declare.field-0 c.in_ok-declare.ensures.fresh c.in_ok-declare.ensures.names) in
    names_on old new c.item-item.result (drop (c.loop-item.item-index + 1) c.args.items.now) c.args.items.now keeps is
    (subst (λ (xs : List FlatItem). NamesOn old xs c.args.items.now) split c.loop-item.invariant)

pub returns : goal.returns
returns c =
    let end = end_is c.args.items.now c.loop-item.item-index (length c.args.items.now) refl c.loop-item-test.false in
    c.loop-item.invariant c.loop-item.names (λ x h. h) (subst (λ (xs : List FlatItem). AreNamed c.loop-item.names xs) (sym end) refl)

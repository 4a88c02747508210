use Rattle.std.proofs.Common.{◌+◌, drop, map, length, refl, ap, arith, length-append}
use Rattle.std.specs.Prelude.{flat_map}
use Rattle.smv_text.specs.View.{plain_element}
use Rattle.smv_meaning.specs.Phases.{element_invariants}
use Rattle.smv_names.proofs.invariants.counted_all.Goals as goal
use Rattle.smv_meaning.specs.laws.Lists.{front_is, end_is}

pub counted-all-requires : goal.counted-all-requires
counted-all-requires c =
    let items = c.as_slice-element-items.result.now in
    let k = c.loop-element.element-index in
    let front = ap (λ l. length (flat_map (element_invariants 0) (map plain_element l))) (front_is items k (length items) c.element-item.result refl c.loop-element-test.true c.element-item.is) in
    let same = ap (λ l. length (flat_map (element_invariants 0) (map plain_element l))) c.as_slice-element-items.ensures in
    let all = c.loop-element.invariant 0 in
    let room = c.requires in
    omega (arith, front, same, room, length-append (element_invariants 0 (plain_element c.element-item.result)) (flat_map (element_invariants 0) (map plain_element (drop (k + 1) items))), all)

pub loop-element-preserved : goal.loop-element-preserved
loop-element-preserved c = λ i.
    let items = c.as_slice-element-items.result.now in
    let k = c.loop-element.element-index in
    let front = ap (λ l. length (flat_map (element_invariants i) (map plain_element l))) (front_is items k (length items) c.element-item.result refl c.loop-element-test.true c.element-item.is) in
    let own = c.counted-all.ensures i in
    omega (arith, front, own, length-append (element_invariants i (plain_element c.element-item.result)) (flat_map (element_invariants i) (map plain_element (drop (k + 1) items))), c.loop-element.invariant i)

pub returns : goal.returns
returns c = λ i.
    let items = c.as_slice-element-items.result.now in
    let none = ap (λ l. length (flat_map (element_invariants i) (map plain_element l))) (end_is items c.loop-element.element-index (length items) refl c.loop-element-test.false) in
    omega (arith, none, c.loop-element.invariant i)

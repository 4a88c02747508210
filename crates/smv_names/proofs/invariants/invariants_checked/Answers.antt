use Rattle.std.proofs.Common.{ℕ, ◌+◌, drop, map, length, refl, ap, arith, length-append}
use Rattle.std.specs.Prelude.{flat_map}
use Rattle.smv_meaning.specs.Phases.{element_invariants, over_instances}
use Rattle.smv_meaning.specs.Instances.{Instance}
use Rattle.smv_instances.specs.View.{instance_plain}
use Rattle.smv_names.proofs.InvariantLengths.{each_length}
use Rattle.smv_names.proofs.invariants.invariants_checked.Goals as goal
use Rattle.smv_meaning.specs.laws.Lists.{front_is}

pub counted_all-count-requires : goal.counted_all-count-requires
counted_all-count-requires c =
    let items = c.list-part-items.result.now in
    let i = c.loop-part.part-index in
    let here = λ (j : ℕ) (at : Instance). flat_map (element_invariants j) at.module.elements in
    let front = ap (λ l. length (over_instances here i (map instance_plain l))) (front_is items i (length items) c.part-item.result refl c.loop-part-test.true c.part-item.is) in
    let same = each_length 0 i (instance_plain c.part-item.result).module.elements in
    let room = c.requires in
    omega (arith, front, same, room, length-append (here i (instance_plain c.part-item.result)) (over_instances here (i + 1) (map instance_plain (drop (i + 1) items))), c.loop-part.invariant)

pub loop-part-preserved : goal.loop-part-preserved
loop-part-preserved c =
    let items = c.list-part-items.result.now in
    let i = c.loop-part.part-index in
    let here = λ (i : ℕ) (at : Instance). flat_map (element_invariants i) at.module.elements in
    let front = ap (λ l. length (over_instances here i (map instance_plain l))) (front_is items i (length items) c.part-item.result refl c.loop-part-test.true c.part-item.is) in
    let own = c.counted_all-count.ensures i in
    omega (arith, front, own, length-append (here i (instance_plain c.part-item.result)) (over_instances here (i + 1) (map instance_plain (drop (i + 1) items))), c.loop-part.invariant)

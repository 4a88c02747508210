use Rattle.std.proofs.Common.{◌≡◌, length, ap, subst}
use Rattle.std.specs.Prelude.{slice_index_or}
use Rattle.smv_instances.proofs.KeyLemmas.{more_keys, all_keys}
use Rattle.smv_instances.proofs.keys.keys_of.Goals as goal

pub loop-i-preserved : goal.loop-i-preserved
loop-i-preserved c =
    let part = c.part-item.result in
    let same = c.list-part-items.ensures in
    more_keys c.args.parts.now c.loop-i.keys.items c.add_keys.new.keys.items c.loop-i.i (length c.list-part-items.result.now) part (ap length same) c.loop-i-test.true (subst (λ ps. part ≡ slice_index_or ps c.loop-i.i part) same c.part-item.is) c.in_ok-add_keys.ensures c.loop-i.invariant

pub returns : goal.returns
returns c = all_keys c.args.parts.now c.loop-i.keys.items c.loop-i.i (length c.list-part-items.result.now) (ap length c.list-part-items.ensures) c.loop-i-test.false c.loop-i.invariant

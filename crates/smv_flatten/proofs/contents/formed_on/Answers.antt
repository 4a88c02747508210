use Rattle.std.proofs.Common.{map, refl}
use Rattle.smv_instances.specs.View.{instance_plain}
use Rattle.smv_items.specs.FlatItems.{origins_of}
use Rattle.smv_flatten.proofs.ItemNumbers.{order_made}
use Rattle.smv_flatten.proofs.contents.formed_on.Goals as goal

pub returns-clause-order : goal.returns-clause-order
returns-clause-order c =
    let t = map instance_plain c.args.table.now in
    order_made c.args.numbers.now.bodies c.args.bodies.now t (origins_of t) c.args.order.now c.as_slice.result.now c.in_ok-order.order
    c.as_slice.ensures c.requires.bodies refl c.requires.numbers.bodies c.in_ok-order.ensures

use Rattle.std.proofs.Common.{subst}
use Rattle.smv_flatten.specs.FlatModel.{FlatModel, IsOrdered}
use Rattle.smv_flatten.proofs.Models.{order_held}
use Rattle.smv_flatten.proofs.form.Flat.order.Goals as goal

pub returns : goal.returns
returns c =
    let i = c.self.inside in
    let own : FlatModel = record { items = i.items; symbols = i.symbols; formulas = i.formulas; width = i.width; weight = i.weight; invariants = i.invariants } in
    subst (λ (f : FlatModel). IsOrdered f c.as_slice.result.now) c.self.view_is (order_held own i.order c.as_slice.result.now c.self.invariant.3 c.as_slice.ensures)

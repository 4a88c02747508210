use Rattle.std.proofs.Common.{map, subst, ◌∙◌}
use Rattle.smv_references.specs.declared.references.Ordering.{Ordering}
use Rattle.smv_references.specs.BodyOrders.{IsOrdering}
use Rattle.smv_meaning.specs.Bodies.{placed_bodies}
use Rattle.smv_instances.specs.View.{instance_plain}
use Rattle.smv_names.proofs.CycleLemmas.{refusal_read}
use Rattle.smv_names.proofs.cycles.cycles_checked.Goals as goal

pub returns-in-Ordered-clause-checks : goal.returns-in-Ordered-clause-checks
returns-in-Ordered-clause-checks c =
    let h = subst (λ (o : Ordering). IsOrdering (map instance_plain c.args.table.now) o) c.in-Ordered.is c.in_ok-order.ensures in
    h.passing

pub returns-in-Cycle-clause-checks : goal.returns-in-Cycle-clause-checks
returns-in-Cycle-clause-checks c =
    let h = subst (λ (o : Ordering). IsOrdering (map instance_plain c.args.table.now) o) c.in-Cycle.is c.in_ok-order.ensures in
    h.failing ∙ refusal_read c.args.bodies.now (placed_bodies (map instance_plain c.args.table.now)) c.in-Cycle.k _ c.requires h.there

use Rattle.std.proofs.Common.{subst}
use Rattle.digraph.specs.declared.order.Order.{Order}
use Rattle.digraph.specs.Ordering.{IsOrder}
use Rattle.smv_meaning.specs.Bodies.{reference_graph}
use Rattle.smv_laws.proofs.OrderLaws.{never_is_acyclic, acyclic_passes}
use Rattle.smv_laws.proofs.FirstCycle.{first_is_first}
use Rattle.smv_references.proofs.references.ordering_of.Goals as goal

pub returns-in-Sorted : goal.returns-in-Sorted
returns-in-Sorted c = λ t h.
    let all = subst (λ (o : Order). IsOrder (reference_graph t) o) c.in-Sorted.is h in
    let none = never_is_acyclic t all.1 in
    record { sorted = all.0; acyclic = none; passing = acyclic_passes t none }

pub returns-in-Returns : goal.returns-in-Returns
returns-in-Returns c = λ t h. first_is_first t c.in-Returns.k (subst (λ (o : Order). IsOrder (reference_graph t) o) c.in-Returns.is h)

use Rattle.std.proofs.Common.{map, subst}
use Rattle.digraph.specs.Graph.{IsSorted}
use Rattle.digraph.specs.declared.order.Order.{Order}
use Rattle.digraph.specs.Ordering.{IsOrder}
use Rattle.moxi_scripts.specs.Script.{plain_system}
use Rattle.moxi_instantiate.proofs.Ordering.{graph_is, never_returns}
use Rattle.moxi_instantiate.proofs.systems.order_of.Goals as goal

pub sort-requires : goal.sort-requires
sort-requires c = graph_is (map plain_system c.args.systems.now) c.requires c.in_ok-graph.graph c.in_ok-graph.ensures

pub returns : goal.returns
returns c = subst (λ g. IsSorted g c.in-Sorted.order) c.in_ok-graph.ensures (subst (λ (o : Order). IsOrder c.in_ok-graph.graph o) c.in-Sorted.is c.in_ok-order.ensures).0

pub unreachable-requires : goal.unreachable-requires
unreachable-requires c =
    never_returns (map plain_system c.args.systems.now) c.requires c.in_ok-graph.graph c.in_ok-graph.ensures c.in-Returns.field-0
    (subst (λ (o : Order). IsOrder c.in_ok-graph.graph o) c.in-Returns.is c.in_ok-order.ensures)

use Rattle.std.proofs.Common.{map, subst, ap, ◌∙◌}
use Rattle.digraph.specs.Graph.{NodeLists, is_graph}
use Rattle.digraph.specs.Ordering.{IsOrder}
use Rattle.smv_instances.specs.View.{instance_plain}
use Rattle.smv_laws.proofs.OrderLaws.{graph_within}
use Rattle.smv_references.proofs.references.body_order.Goals as goal

pub sort-requires : goal.sort-requires
sort-requires c = ap is_graph c.in_ok-graph.ensures ∙ graph_within (map instance_plain c.args.table.now)

pub returns : goal.returns
returns c =
    c.ordering_of.ensures (map instance_plain c.args.table.now) (subst (λ (g : NodeLists). IsOrder g c.in_ok-sort.field-0) c.in_ok-graph.ensures c.in_ok-sort.ensures)

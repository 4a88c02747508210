-- What is answered of a graph.
use Rattle.digraph.specs.declared.order.Order.{Order}
use Rattle.digraph.specs.declared.order.Order.TheVariants.{Sorted, Returns}
use Rattle.digraph.specs.Graph.{NodeLists, IsSorted, NeverReturns, IsFirstReturn}

-- an order, where no node leads to itself, else the first one that does
abbrev pub IsOrder : NodeLists → Order → Type 0
IsOrder g (Sorted order) = IsSorted g order × NeverReturns g
IsOrder g (Returns k) = IsFirstReturn g k

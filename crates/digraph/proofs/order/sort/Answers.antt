use Rattle.std.proofs.Common.{ℕ, List, sym, subst, arith}
use Rattle.digraph.specs.Graph.{IsSorted, NeverReturns}
use Rattle.digraph.proofs.Sorting.{sorts, never_returns}
use Rattle.digraph.proofs.order.sort.Goals as goal

pub returns : goal.returns
returns c =
    let i = c.loop-root.invariant in
    let all = sorts c.args.graph.now c.loop-root.search i.search i.empty (λ k l. i.met k (omega (arith, l, c.loop-root-test.false, c.len-root-end.ensures))) in
    subst (λ (ks : List ℕ). IsSorted c.args.graph.now ks × NeverReturns c.args.graph.now) (sym c.sorted.ensures) (all, never_returns c.args.graph.now c.loop-root.search.order all)

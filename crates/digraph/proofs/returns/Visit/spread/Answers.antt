use Rattle.std.proofs.Common.{◌≡◌, ℕ, ◌+◌, ◌<◌, true, sym, subst, take}
use Rattle.std.specs.List.{list_all}
use Rattle.digraph.specs.Graph.{is_in}
use Rattle.digraph.specs.Visiting.{Visited, IsVisit, Extends}
use Rattle.digraph.proofs.Visits.{spreads_on}
use Rattle.digraph.proofs.returns.Visit.spread.Goals as goal

pub loop-i-preserved : goal.loop-i-preserved
loop-i-preserved c =
    let i = c.loop-i.invariant in
    let on = spreads_on c.args.graph.now c.args.start c.args.node c.loop-i.i c.at-next.result.now c.at-row.result.now c.args.self.now c.loop-i.self c.requires.graph c.requires.there c.at-row.ensures c.requires.near
    i.visit i.all i.extends (subst (λ (n : ℕ). c.loop-i.i < n) c.len-i-end.ensures c.loop-i-test.true) c.at-next.ensures c.if-next-start.false in
    subst (λ (w : Visited). record { visit : IsVisit c.args.graph.now c.args.start w; all : list_all (is_in w.queue) (take (c.loop-i.i + 1) c.at-row.result.now) ≡ true; extends : Extends c.args.self.now w }) (sym c.in_ok-add.ensures)
    (record { visit = on.0; all = on.1; extends = on.2 })

use Rattle.std.proofs.Common.{rules}
use Rattle.digraph.proofs.RankLaws.{may_not}
use Rattle.digraph.proofs.ranks.Ranks.may_return.Goals as goal

pub returns-else-not-self : goal.returns-else-not-self
returns-else-not-self c = λ n over.
    let r = c.requires.ranks in
    may_not c.args.graph.now c.args.self.now.ranks.items c.as_slice.result.now c.at.result.now c.args.node c.index.result.now c.highest.result n
    (r.falls (search (rules, c.if-not-self.false))) r.long c.requires.there c.index.ensures c.as_slice.ensures.value c.at.ensures c.highest.ensures over

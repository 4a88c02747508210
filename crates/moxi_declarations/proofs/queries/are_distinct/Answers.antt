use Rattle.std.proofs.Common.{sym, ◌∙◌}
use Rattle.moxi_declarations.proofs.NumberLaws.{stands_twice}
use Rattle.moxi_declarations.proofs.queries.are_distinct.Goals as goal

pub returns-then-not-branch : goal.returns-then-not-branch
returns-then-not-branch c =
    stands_twice c.args.numbers.now c.loop-k.seen.keys c.loop-k.k c.at.result.now c.loop-k-test.true c.loop-k.invariant.within c.at.ensures c.loop-k.invariant.among (sym c.if-not-branch.true ∙ c.in_ok-put_number.ensures.fresh)

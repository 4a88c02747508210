use Rattle.std.proofs.Common.{◌≡◌, IfOk, subst}
use Rattle.moxi_terms.specs.Value.{at}
use Rattle.moxi_scripts.specs.Meeting.{reaches}
use Rattle.moxi_judge.specs.FlatTests.{free_script}
use Rattle.moxi_judge.proofs.Steps.{one_reached}
use Rattle.moxi_judge.proofs.queries.all_reached.Goals as goal

pub returns-then-numbers-gt1 : goal.returns-then-numbers-gt1
returns-then-numbers-gt1 c = λ before kept. c.are_reached.ensures before (kept.several c.if-numbers-gt1.true)

pub returns-else-numbers-gt1 : goal.returns-else-numbers-gt1
returns-else-numbers-gt1 c = λ before kept.
    let reached = reaches (free_script c.args.system.now) (at c.args.now.now) in
    subst (λ b. IfOk c.some_reached.result (λ all. all ≡ b)) (one_reached before reached c.args.numbers.now c.if-numbers-gt1.false) c.some_reached.ensures

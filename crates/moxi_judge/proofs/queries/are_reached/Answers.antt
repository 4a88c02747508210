use Rattle.std.proofs.Common.{◌≡◌, ◌||◌, [], drop, length, refl}
use Rattle.moxi_terms.specs.Value.{at}
use Rattle.moxi_scripts.specs.Meeting.{reaches}
use Rattle.moxi_scripts.proofs.Forms.{items_end}
use Rattle.moxi_judge.specs.FlatTests.{free_script}
use Rattle.moxi_judge.proofs.Steps.{reached_end}
use Rattle.moxi_judge.proofs.queries.are_reached.Goals as goal

pub returns : goal.returns
returns c = λ before marks.
    let numbers = c.args.numbers.now in
    let reached = reaches (free_script c.args.system.now) (at c.args.now.now) in
    let e : drop c.loop-i.i numbers ≡ [] = items_end numbers c.loop-i.i (length numbers) refl c.loop-i-test.false in
    reached_end (λ r. before r || reached r) reached numbers c.loop-i.i c.loop-i.some e (c.loop-i.invariant.all before marks) c.loop-i.invariant.any

use Rattle.std.proofs.Common.{ℕ, ◌<◌, ◌||◌, Bool, List, length, subst}
use Rattle.std.specs.Prelude.{OnOk}
use Rattle.moxi_terms.specs.Value.{at}
use Rattle.moxi_scripts.specs.Meeting.{reaches}
use Rattle.moxi_judge.specs.FlatTests.{AreMarks, Remember, free_script}
use Rattle.moxi_judge.proofs.Steps.{on_ok_more}
use Rattle.moxi_judge.proofs.queries.mark_reached.Goals as goal

pub returns-then-numbers-gt1 : goal.returns-then-numbers-gt1
returns-then-numbers-gt1 c = λ before kept.
    let reached = reaches (free_script c.args.system.now) (at c.args.now.now) in
    let numbers = c.args.query.now.reachables in
    let marks = c.mark_all.new.marks.items in
    let Marks : List ℕ → Type 0 = λ is. (before : ℕ → Bool) → AreMarks before is c.args.marks.now.items → OnOk c.mark_all.result (AreMarks (λ r. before r || reached r) is marks) in
    let several : 1 < length c.args.query.now.reachables = subst (λ is. 1 < length is) c.as_slice-numbers.ensures c.if-numbers-gt1.true in
    on_ok_more c.mark_all.result (AreMarks (λ r. before r || reached r) numbers marks) (Remember (λ r. before r || reached r) numbers marks) (λ m. record { long = m.long; several = λ l. m })
    (subst Marks c.as_slice-numbers.ensures c.mark_all.ensures before (kept.several several))

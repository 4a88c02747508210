use Rattle.std.proofs.Common.{◌≡◌, ℕ, ◌&&◌, ◌||◌, Bool, IfOk, List, subst}
use Rattle.std.specs.List.{list_all, list_any}
use Rattle.moxi_terms.specs.Value.{at}
use Rattle.moxi_scripts.specs.Meeting.{reaches}
use Rattle.moxi_judge.specs.FlatTests.{Remember, free_script}
use Rattle.moxi_judge.proofs.Steps.{asked_last}
use Rattle.moxi_judge.proofs.queries.ends_reached.Goals as goal

pub returns-then-last-step : goal.returns-then-last-step
returns-then-last-step c = λ before marks.
    let s = free_script c.args.system.now in
    let now = at c.args.now.now in
    let Reached : List ℕ → Type 0 = λ is. (before : ℕ → Bool) → Remember before is c.args.marks.now
    → IfOk c.all_reached.result (λ all. all ≡ (list_all (λ r. before r || reaches s now r) is && list_any (reaches s now) is)) in
    subst (λ b. IfOk c.all_reached.result (λ reached. reached ≡ b)) (asked_last s c.args.query.now c.args.last before c.args.step now c.if-last-step.true)
    (subst Reached c.as_slice.ensures c.all_reached.ensures before marks)

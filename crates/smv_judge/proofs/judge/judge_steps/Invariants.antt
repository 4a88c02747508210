use Rattle.std.proofs.Common.{◌≡◌, ◌+◌, ◌-◌, ◌<◌, drop, length}
use Rattle.smv_text.specs.Tree.{PlainSource}
use Rattle.smv_meaning.specs.Values.{given}
use Rattle.smv_meaning.specs.Instances.{instances_of}
use Rattle.smv_flat.specs.FlatParts.{parts_plain}
use Rattle.smv_flatten.specs.FlatModel.{IsFlatOf}
use Rattle.smv_judge.specs.Models.{IsStateRow}
use Rattle.smv_judge.specs.Stated.{states_in, labels_in, label_in, list_at, judged_from, IsCarried}
use Rattle.smv_judge.proofs.Takes.{TakenBefore}
use Rattle.smv_judge.proofs.judge.judge_steps.Given as goal

abbrev pub invariant-loop-step : goal.invariant-loop-step
invariant-loop-step g l = let items = (parts_plain l.flat).items in let states = states_in items l.run in let labels = labels_in items l.run in record {
  within : l.step < length states;
  row : IsStateRow l.flat (given (list_at states l.step)) l.row.values.items;
  carried : IsCarried items l.run (l.step + 1) l.carried;
  taken : TakenBefore (λ rows. g.T.TakesRows.took l.fn.taker rows l.taker) (parts_plain l.flat) (label_in items l.run) states labels (drop l.step states) (drop l.step labels);
  same : (source : PlainSource) → IsFlatOf source (parts_plain l.flat) → judged_from (instances_of source) l.j l.step states labels ≡ judged_from (instances_of source) l.j 0 states labels;
}

abbrev pub decreases-loop-step : goal.decreases-loop-step
decreases-loop-step g l = length (states_in (parts_plain l.flat).items l.run) - l.step

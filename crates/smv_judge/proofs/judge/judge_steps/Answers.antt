use Rattle.std.proofs.Common.{◌+◌, ◌<◌, ◌≤◌, true, false, List, ◌∷◌, drop, length, refl, sym, ◌∙◌, subst, arith}
use Rattle.smv_meaning.specs.declared.value.Given.{Given}
use Rattle.smv_meaning.specs.Values.{given}
use Rattle.smv_meaning.specs.Instances.{instances_of}
use Rattle.smv_flat.specs.FlatTruth.{IsRow}
use Rattle.smv_flat_evaluation.specs.RowValues.{row_values}
use Rattle.smv_flat.specs.FlatParts.{parts_plain}
use Rattle.smv_rows.specs.declared.row.Row.{Row as FilledRow}
use Rattle.smv_judge.specs.Models.{step_clauses, IsStateRow, AreStepRows, AreLastRows}
use Rattle.smv_judge.specs.Stated.{states_in, labels_in, label_in, list_at, judged_from}
use Rattle.smv_judge.proofs.ListedLaws.{items_apart}
use Rattle.smv_judge.proofs.StepLaws.{truth_is, rows_safe, rows_true, outside_end, broken_end, none_said, some_said}
use Rattle.smv_judge.proofs.StatedRuns.{list_on, some_left, none_left, none_length, none_zero, unlabelled, step_on}
use Rattle.smv_judge.proofs.Takes.{TakenBefore, all_taken, one_taken, none_taken}
use Rattle.smv_judge.proofs.judge.judge_steps.Goals as goal

pub loop-step-init : goal.loop-step-init
loop-step-init g c =
    let flat = parts_plain c.args.flat.now in
    let states = states_in flat.items c.args.run.now in
    let labels = labels_in flat.items c.args.run.now in
    record {
      within = c.requires.some;
      row = c.requires.row;
      carried = c.requires.carried;
      taken = none_taken (λ rows. g.T.TakesRows.took c.args.taker.now rows c.args.taker.now) flat (label_in flat.items c.args.run.now) states labels c.requires.none;
      same = λ source k. refl;
    }

pub give_next-requires-clause-apart : goal.give_next-requires-clause-apart
give_next-requires-clause-apart g c =
    items_apart (parts_plain c.args.flat.now) c.requires.model.0 c.requires.model.1

pub give_next-requires-clause-state : goal.give_next-requires-clause-state
give_next-requires-clause-state g c =
    let i = c.loop-step.invariant in
    let flat = parts_plain c.args.flat.now in
    let states = states_in flat.items c.args.run.now in
    let labels = labels_in flat.items c.args.run.now in
    let n = c.loop-step.step in
    let more : n + 1 < length states = omega (arith, c.loop-step-test.true, c.state_count-count.ensures flat.items) in
    more

pub give_next-requires-clause-label : goal.give_next-requires-clause-label
give_next-requires-clause-label g c =
    let i = c.loop-step.invariant in
    let flat = parts_plain c.args.flat.now in
    let states = states_in flat.items c.args.run.now in
    let labels = labels_in flat.items c.args.run.now in
    let n = c.loop-step.step in
    let labelled : n < length labels = omega (arith, c.if-labels-step.false, c.label_count-labels.ensures flat.items) in
    labelled

pub returns-then-labels-step-clause-verdict : goal.returns-then-labels-step-clause-verdict
returns-then-labels-step-clause-verdict g c = λ source k.
    let i = c.loop-step.invariant in
    let flat = parts_plain c.args.flat.now in
    let states = states_in flat.items c.args.run.now in
    let labels = labels_in flat.items c.args.run.now in
    let n = c.loop-step.step in
    let more : n + 1 < length states = omega (arith, c.loop-step-test.true, c.state_count-count.ensures flat.items) in
    let none : length labels ≤ n = omega (arith, c.if-labels-step.true, c.label_count-labels.ensures flat.items) in
    unlabelled (instances_of source) c.args.j n (given (list_at states n)) (list_at states (n + 1)) (drop ((n + 1) + 1) states) (drop (n + 1) states) (drop n labels) _ (list_on states (n + 1) more) (none_left labels n none) (i.same source k)

pub step_failure-requires-clause-rows : goal.step_failure-requires-clause-rows
step_failure-requires-clause-rows g c =
    let i = c.loop-step.invariant in
    let flat = parts_plain c.args.flat.now in
    let states = states_in flat.items c.args.run.now in
    let labels = labels_in flat.items c.args.run.now in
    let n = c.loop-step.step in
    let more : n + 1 < length states = omega (arith, c.loop-step-test.true, c.state_count-count.ensures flat.items) in
    let labelled : n < length labels = omega (arith, c.if-labels-step.false, c.label_count-labels.ensures flat.items) in
    let s = given (list_at states n) in
    let l = given (list_at labels n) in
    let u = given (list_at states (n + 1)) in
    let rows : AreStepRows c.args.flat.now s l u c.swap.new.x.values.items c.give_next.new.row.values.items = record { row_before = subst (λ (r : FilledRow). IsStateRow c.args.flat.now s r.values.items) (sym c.swap.ensures.x_after) i.row; given = c.in_ok-give_next.ensures.row } in
    (s, l, u, rows)

pub returns-in-Some-clause-verdict : goal.returns-in-Some-clause-verdict
returns-in-Some-clause-verdict g c = λ source k.
    let i = c.loop-step.invariant in
    let flat = parts_plain c.args.flat.now in
    let states = states_in flat.items c.args.run.now in
    let labels = labels_in flat.items c.args.run.now in
    let n = c.loop-step.step in
    let more : n + 1 < length states = omega (arith, c.loop-step-test.true, c.state_count-count.ensures flat.items) in
    let labelled : n < length labels = omega (arith, c.if-labels-step.false, c.label_count-labels.ensures flat.items) in
    let s = given (list_at states n) in
    let l = given (list_at labels n) in
    let u = given (list_at states (n + 1)) in
    let rows : AreStepRows c.args.flat.now s l u c.swap.new.x.values.items c.give_next.new.row.values.items = record { row_before = subst (λ (r : FilledRow). IsStateRow c.args.flat.now s r.values.items) (sym c.swap.ensures.x_after) i.row; given = c.in_ok-give_next.ensures.row } in
    some_said (n + 1) (step_clauses (instances_of source) s l u) (judged_from (instances_of source) c.args.j (n + 1) states labels) c.in-Some.clause (sym c.in-Some.is ∙ c.step_failure.ensures.clause s l u rows source k)
    ∙ sym (step_on (instances_of source) c.args.j n states labels more labelled) ∙ i.same source k

pub loop-step-preserved : goal.loop-step-preserved
loop-step-preserved g c =
    let i = c.loop-step.invariant in
    let flat = parts_plain c.args.flat.now in
    let states = states_in flat.items c.args.run.now in
    let labels = labels_in flat.items c.args.run.now in
    let n = c.loop-step.step in
    let more : n + 1 < length states = omega (arith, c.loop-step-test.true, c.state_count-count.ensures flat.items) in
    let labelled : n < length labels = omega (arith, c.if-labels-step.false, c.label_count-labels.ensures flat.items) in
    let s = given (list_at states n) in
    let l = given (list_at labels n) in
    let u = given (list_at states (n + 1)) in
    let rows : AreStepRows c.args.flat.now s l u c.swap.new.x.values.items c.give_next.new.row.values.items = record { row_before = subst (λ (r : FilledRow). IsStateRow c.args.flat.now s r.values.items) (sym c.swap.ensures.x_after) i.row; given = c.in_ok-give_next.ensures.row } in
    record {
      within = more;
      row = c.step_failure.ensures.row s l u rows c.in-None.is;
      carried = c.in_ok-give_next.ensures.carried;
      taken = one_taken (λ rs. g.T.TakesRows.took c.args.taker.now rs c.loop-step.taker) (λ rs. g.T.TakesRows.took c.args.taker.now rs c.take_row.new.self) flat (label_in flat.items c.args.run.now) states labels (list_at states n) (list_at labels n) (drop (n + 1) states) (drop (n + 1) labels)
          (row_values c.as_slice.result.now) (subst (λ vs. IsRow flat s l (row_values vs)) (sym c.as_slice.ensures.value) (c.step_failure.ensures.before s l u rows c.in-None.is)) (c.in_ok-take_row.ensures c.args.taker.now)
          (subst (λ (xs : List (List Given)). TakenBefore (λ rs. g.T.TakesRows.took c.args.taker.now rs c.loop-step.taker) flat (label_in flat.items c.args.run.now) states labels (list_at states n ∷ drop (n + 1) states) xs) (list_on labels n labelled)
          (subst (λ (xs : List (List Given)). TakenBefore (λ rs. g.T.TakesRows.took c.args.taker.now rs c.loop-step.taker) flat (label_in flat.items c.args.run.now) states labels xs (drop n labels)) (list_on states n i.within) i.taken));
      same = λ source k.
          none_said (n + 1) (step_clauses (instances_of source) s l u) (judged_from (instances_of source) c.args.j (n + 1) states labels) (sym c.in-None.is ∙ c.step_failure.ensures.clause s l u rows source k)
          ∙ sym (step_on (instances_of source) c.args.j n states labels more labelled) ∙ i.same source k;
    }

pub returns-then-step-labels-clause-verdict : goal.returns-then-step-labels-clause-verdict
returns-then-step-labels-clause-verdict g c = λ source k.
    let i = c.loop-step.invariant in
    let flat = parts_plain c.args.flat.now in
    let states = states_in flat.items c.args.run.now in
    let labels = labels_in flat.items c.args.run.now in
    let n = c.loop-step.step in
    let last : length states ≤ n + 1 = omega (arith, c.loop-step-test.false, c.state_count-count.ensures flat.items) in
    let some : n < length labels = omega (arith, c.if-step-labels.true, c.label_count-labels.ensures flat.items) in
    outside_end (instances_of source) c.args.j n (given (list_at states n)) (drop (n + 1) states) (drop n labels) _ (none_length states (n + 1) last) (some_left labels n some) (i.same source k)

pub is_broken-requires : goal.is_broken-requires
is_broken-requires g c =
    let flat = c.args.flat.now in
    let m = c.requires.model in
    let r = c.loop-step.invariant.row in
    let s = given (list_at (states_in (parts_plain flat).items c.args.run.now) c.loop-step.step) in
    let row = row_values c.loop-step.row.values.items in
    rows_safe flat m.0 m.1 s r.label s r.label (r.state_fits m.0 m.1) (r.label_fits m.0 m.1) (r.state_fits m.0 m.1) (r.label_fits m.0 m.1) row row r.row r.row

pub take_last-requires-clause-rows : goal.take_last-requires-clause-rows
take_last-requires-clause-rows g c =
    let flat = parts_plain c.args.flat.now in
    let s = given (list_at (states_in flat.items c.args.run.now) c.loop-step.step) in
    (s, given (label_in flat.items c.args.run.now), c.requires.inputs.0, record { row = c.loop-step.invariant.row; given_inputs = c.requires.inputs.1; label_fits = c.requires.label })

pub returns-then-is_broken-clause-verdict : goal.returns-then-is_broken-clause-verdict
returns-then-is_broken-clause-verdict g c = λ source k.
    let i = c.loop-step.invariant in
    let flat = parts_plain c.args.flat.now in
    let states = states_in flat.items c.args.run.now in
    let labels = labels_in flat.items c.args.run.now in
    let n = c.loop-step.step in
    let last : length states ≤ n + 1 = omega (arith, c.loop-step-test.false, c.state_count-count.ensures flat.items) in
    let none : length labels ≤ n = omega (arith, c.if-step-labels.false, c.label_count-labels.ensures flat.items) in
    let s = given (list_at states n) in
    let r = i.row in
    let row = row_values c.loop-step.row.values.items in
    let h = rows_true c.args.flat.now source k s r.label s r.label row row r.row r.row in
    broken_end (instances_of source) c.args.j n s (drop (n + 1) states) (drop n labels) _ true (none_length states (n + 1) last) (none_zero labels n none)
    (truth_is _ _ true c.is_broken.result (h.broken c.args.j) c.is_broken.ensures c.if-is_broken.true) (i.same source k)

pub returns-clause-verdict : goal.returns-clause-verdict
returns-clause-verdict g c = λ source k.
    let i = c.loop-step.invariant in
    let flat = parts_plain c.args.flat.now in
    let states = states_in flat.items c.args.run.now in
    let labels = labels_in flat.items c.args.run.now in
    let n = c.loop-step.step in
    let last : length states ≤ n + 1 = omega (arith, c.loop-step-test.false, c.state_count-count.ensures flat.items) in
    let none : length labels ≤ n = omega (arith, c.if-step-labels.false, c.label_count-labels.ensures flat.items) in
    let s = given (list_at states n) in
    let r = i.row in
    let row = row_values c.loop-step.row.values.items in
    let h = rows_true c.args.flat.now source k s r.label s r.label row row r.row r.row in
    broken_end (instances_of source) c.args.j n s (drop (n + 1) states) (drop n labels) _ false (none_length states (n + 1) last) (none_zero labels n none)
    (truth_is _ _ false c.is_broken.result (h.broken c.args.j) c.is_broken.ensures c.if-is_broken.false) (i.same source k)

pub returns-then-is_broken-clause-taken : goal.returns-then-is_broken-clause-taken
returns-then-is_broken-clause-taken g c = λ y.
    let i = c.loop-step.invariant in
    let flat = parts_plain c.args.flat.now in
    let states = states_in flat.items c.args.run.now in
    let labels = labels_in flat.items c.args.run.now in
    let n = c.loop-step.step in
    let last : length states ≤ n + 1 = omega (arith, c.loop-step-test.false, c.state_count-count.ensures flat.items) in
    let none : length labels ≤ n = omega (arith, c.if-step-labels.false, c.label_count-labels.ensures flat.items) in
    let s = given (list_at states n) in
    let rows : AreLastRows c.args.flat.now s (given (label_in flat.items c.args.run.now)) c.requires.inputs.0 c.loop-step.row.values.items c.args.inputs.now.values.items = record { row = i.row; given_inputs = c.requires.inputs.1; label_fits = c.requires.label } in
    let taken = c.in_ok-take_last.ensures s (given (label_in flat.items c.args.run.now)) c.requires.inputs.0 rows in
    all_taken (λ rs. g.T.TakesRows.took c.args.taker.now rs c.loop-step.taker) (λ rs. g.T.TakesRows.took c.args.taker.now rs c.take_last.new.taker) flat (label_in flat.items c.args.run.now) states labels (list_at states n) (drop (n + 1) states) (drop n labels)
    (none_length states (n + 1) last) (none_zero labels n none) (taken.0, taken.1, taken.2 c.args.taker.now)
    (subst (λ (xs : List (List Given)). TakenBefore (λ rs. g.T.TakesRows.took c.args.taker.now rs c.loop-step.taker) flat (label_in flat.items c.args.run.now) states labels xs (drop n labels)) (list_on states n i.within) i.taken)

pub take_last-requires-clause-taken : goal.take_last-requires-clause-taken
take_last-requires-clause-taken g c = (c.args.taker.now, c.loop-step.invariant.taken.rows, c.loop-step.invariant.taken.taken)

pub take_row-requires : goal.take_row-requires
take_row-requires g c = (c.args.taker.now, c.loop-step.invariant.taken.rows, c.loop-step.invariant.taken.taken)

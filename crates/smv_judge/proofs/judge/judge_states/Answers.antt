use Rattle.std.proofs.Common.{drop, length, refl, sym, ◌∙◌}
use Rattle.std.proofs.lemmas.List.{length-map}
use Rattle.smv_meaning.specs.Values.{given}
use Rattle.smv_items.specs.FlatItemView.{item_plain}
use Rattle.smv_flat.specs.FlatParts.{parts_plain}
use Rattle.smv_judge.specs.Stated.{states_in, labels_in, label_in, list_at}
use Rattle.smv_judge.proofs.ListedLaws.{items_apart}
use Rattle.smv_judge.proofs.StepLaws.{parts_told, first_refused}
use Rattle.smv_judge.proofs.StatedRuns.{carried_first, list_on}
use Rattle.smv_judge.proofs.judge.judge_states.Goals as goal

pub give_first-requires-clause-apart : goal.give_first-requires-clause-apart
give_first-requires-clause-apart g c = items_apart (parts_plain c.args.flat.now) c.requires.model.0 c.requires.model.1

pub give_first-requires-clause-carried : goal.give_first-requires-clause-carried
give_first-requires-clause-carried g c =
    carried_first (parts_plain c.args.flat.now).items c.args.run.now (length c.args.flat.now.items.now) c.in_ok-carried.carried (sym (length-map c.args.flat.now.items.now item_plain)) c.in_ok-carried.ensures

pub first_failure-requires-clause-rows : goal.first_failure-requires-clause-rows
first_failure-requires-clause-rows g c =
    let flat = parts_plain c.args.flat.now in
    (given (list_at (states_in flat.items c.args.run.now) 0), given (label_in flat.items c.args.run.now), record { given = c.in_ok-give_first.ensures.row; label_fits = c.requires.label })

pub judge_steps-requires-clause-row : goal.judge_steps-requires-clause-row
judge_steps-requires-clause-row g c =
    let flat = parts_plain c.args.flat.now in
    c.first_failure.ensures.row (given (list_at (states_in flat.items c.args.run.now) 0)) (given (label_in flat.items c.args.run.now)) (record { given = c.in_ok-give_first.ensures.row; label_fits = c.requires.label }) c.in-None.is

pub returns-in-Some-clause-verdict : goal.returns-in-Some-clause-verdict
returns-in-Some-clause-verdict g c = λ source k.
    let flat = parts_plain c.args.flat.now in
    let states = states_in flat.items c.args.run.now in
    let s = given (list_at states 0) in
    let l = given (label_in flat.items c.args.run.now) in
    first_refused source c.args.j (list_at states 0) (drop 1 states) states (labels_in flat.items c.args.run.now) c.in-Some.clause (list_on states 0 c.requires.some)
    (sym c.in-Some.is ∙ c.first_failure.ensures.clause s l (record { given = c.in_ok-give_first.ensures.row; label_fits = c.requires.label }) source k)

pub returns-clause-verdict : goal.returns-clause-verdict
returns-clause-verdict g c =
    let flat = parts_plain c.args.flat.now in
    let states = states_in flat.items c.args.run.now in
    let s = given (list_at states 0) in
    let l = given (label_in flat.items c.args.run.now) in
    parts_told flat c.judge_steps.result c.args.j (list_at states 0) (drop 1 states) (labels_in flat.items c.args.run.now) states (labels_in flat.items c.args.run.now) (list_on states 0 c.requires.some) refl
    (λ source k. sym c.in-None.is ∙ c.first_failure.ensures.clause s l (record { given = c.in_ok-give_first.ensures.row; label_fits = c.requires.label }) source k) c.judge_steps.ensures.verdict

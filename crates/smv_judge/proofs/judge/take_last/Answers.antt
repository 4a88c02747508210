use Rattle.std.proofs.Common.{sym, subst}
use Rattle.smv_flat.specs.FlatParts.{parts_plain}
use Rattle.smv_flat.specs.FlatTruth.{IsRow}
use Rattle.smv_flat_evaluation.specs.RowValues.{row_values}
use Rattle.smv_judge.proofs.StepLaws.{all_safe}
use Rattle.smv_judge.proofs.judge.take_last.Goals as goal

pub give_label-requires-clause-safe : goal.give_label-requires-clause-safe
give_label-requires-clause-safe g c =
    let flat = c.args.flat.now in
    let s = c.requires.rows.0 in
    let l = c.requires.rows.1 in
    let h = c.requires.rows.3 in
    record { size = h.row.size; state = s; before = h.row.label; label = l; after = c.requires.rows.2; row = h.row.row; given = h.given_inputs; safe = all_safe flat c.requires.model s l h.row.state_fits h.label_fits }

pub returns : goal.returns
returns g c = λ s l after h.
    let flat = c.args.flat.now in
    let row = c.give_label.ensures.row s h.row.label l after h.row.row h.given_inputs in
    (row_values c.as_slice.result.now, subst (λ vs. IsRow (parts_plain flat) s l (row_values vs)) (sym c.as_slice.ensures.value) row, c.in_ok-take_row.ensures)

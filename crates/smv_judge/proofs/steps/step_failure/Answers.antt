use Rattle.std.proofs.Common.{◌≡◌, Bool, true, false, ◌&&◌, IsTrue, ◌∙◌}
use Rattle.text_core.specs.declared.verdict.Clause.TheVariants.{ValueOutside, TransFails, InvarFails}
use Rattle.smv_text.specs.Tree.{PlainSource}
use Rattle.smv_meaning.specs.Instances.{instances_of}
use Rattle.smv_meaning.specs.Runs.{state_fits, label_fits, invar_holds, step_holds}
use Rattle.smv_flat_laws.specs.FlatLaws.{HasTruth}
use Rattle.smv_flat_evaluation.specs.RowValues.{row_values}
use Rattle.smv_flat.specs.FlatParts.{parts_plain}
use Rattle.smv_flatten.specs.FlatModel.{IsFlatOf}
use Rattle.smv_judge.proofs.StepLaws.{told, truth_is, both_same, both_fit, none_fits, rows_safe, rows_true, all_safe, can_fill, first_fails, second_fails, third_fails, none_fails}
use Rattle.smv_judge.proofs.steps.step_failure.Goals as goal

pub returns-then-not-items_fit-clause-clause : goal.returns-then-not-items_fit-clause-clause
returns-then-not-items_fit-clause-clause c = λ s l u h.
    let flat = c.args.flat.now in
    let m = c.requires.model in
    let values = c.args.row.now.values.items in
    let g = h.given in
    let unfit = told flat values c.as_slice.result.now c.items_fit.result false c.as_slice.ensures.value c.items_fit.ensures c.if-not-items_fit.true in
    λ source k. first_fails (state_fits (instances_of source) u && label_fits (instances_of source) l) (step_holds (instances_of source) s l u) (invar_holds (instances_of source) u) ValueOutside TransFails InvarFails (none_fits flat source k u l values g unfit)

pub evaluate-requires-clause-safe : goal.evaluate-requires-clause-safe
evaluate-requires-clause-safe c =
    let s = c.requires.rows.0 in
    let l = c.requires.rows.1 in
    let u = c.requires.rows.2 in
    let h = c.requires.rows.3 in
    let flat = c.args.flat.now in
    let m = c.requires.model in
    let values = c.args.row.now.values.items in
    let g = h.given in
    let fits = told flat values c.as_slice.result.now c.items_fit.result true c.as_slice.ensures.value c.items_fit.ensures c.if-not-items_fit.false in
    can_fill flat m u l values g fits

pub give_label-requires-clause-safe : goal.give_label-requires-clause-safe
give_label-requires-clause-safe c =
    let s = c.requires.rows.0 in
    let l = c.requires.rows.1 in
    let u = c.requires.rows.2 in
    let h = c.requires.rows.3 in
    let flat = c.args.flat.now in
    let m = c.requires.model in
    let values = c.args.row.now.values.items in
    let g = h.given in
    let fits = told flat values c.as_slice.result.now c.items_fit.result true c.as_slice.ensures.value c.items_fit.ensures c.if-not-items_fit.false in
    record { size = h.row_before.size; state = s; before = h.row_before.label; label = l; after = u; row = h.row_before.row; given = g; safe = all_safe flat m s l h.row_before.state_fits (λ source k. (both_fit flat source k u l values g fits).1) }

pub step_holds-requires : goal.step_holds-requires
step_holds-requires c =
    let s = c.requires.rows.0 in
    let l = c.requires.rows.1 in
    let u = c.requires.rows.2 in
    let h = c.requires.rows.3 in
    let flat = c.args.flat.now in
    let m = c.requires.model in
    let values = c.args.row.now.values.items in
    let g = h.given in
    let fits = told flat values c.as_slice.result.now c.items_fit.result true c.as_slice.ensures.value c.items_fit.ensures c.if-not-items_fit.false in
    let new = c.evaluate.new.self.values.items in
    let row = c.evaluate.ensures.values u l g in
    let state : (source : PlainSource) → IsFlatOf source (parts_plain flat) → IsTrue (state_fits (instances_of source) u) = λ source k. (both_fit flat source k u l values g fits).0 in
    let label : (source : PlainSource) → IsFlatOf source (parts_plain flat) → IsTrue (label_fits (instances_of source) l) = λ source k. (both_fit flat source k u l values g fits).1 in
    let values_fit : (source : PlainSource) → IsFlatOf source (parts_plain flat) → (state_fits (instances_of source) u && label_fits (instances_of source) l) ≡ true =
    λ source k. both_same _ _ true true (state source k) (label source k) in
    let old = c.give_label.new.self.values.items in
    let before = c.give_label.ensures.row s h.row_before.label l u h.row_before.row g in
    rows_safe flat m.0 m.1 s l u l (h.row_before.state_fits m.0 m.1) (label m.0 m.1) (state m.0 m.1) (label m.0 m.1) (row_values old) (row_values new) before row

pub returns-then-not-step_holds-clause-clause : goal.returns-then-not-step_holds-clause-clause
returns-then-not-step_holds-clause-clause c = λ s l u h.
    let flat = c.args.flat.now in
    let m = c.requires.model in
    let values = c.args.row.now.values.items in
    let g = h.given in
    let fits = told flat values c.as_slice.result.now c.items_fit.result true c.as_slice.ensures.value c.items_fit.ensures c.if-not-items_fit.false in
    let new = c.evaluate.new.self.values.items in
    let row = c.evaluate.ensures.values u l g in
    let state : (source : PlainSource) → IsFlatOf source (parts_plain flat) → IsTrue (state_fits (instances_of source) u) = λ source k. (both_fit flat source k u l values g fits).0 in
    let label : (source : PlainSource) → IsFlatOf source (parts_plain flat) → IsTrue (label_fits (instances_of source) l) = λ source k. (both_fit flat source k u l values g fits).1 in
    let values_fit : (source : PlainSource) → IsFlatOf source (parts_plain flat) → (state_fits (instances_of source) u && label_fits (instances_of source) l) ≡ true =
    λ source k. both_same _ _ true true (state source k) (label source k) in
    let old = c.give_label.new.self.values.items in
    let before = c.give_label.ensures.row s h.row_before.label l u h.row_before.row g in
    let goes : (b : Bool) → c.step_holds.result ≡ b → (source : PlainSource) → IsFlatOf source (parts_plain flat) → step_holds (instances_of source) s l u ≡ b =
    λ b e source k.
    let h = rows_true flat source k s l u l (row_values old) (row_values new) before row in
    truth_is _ _ b c.step_holds.result (both_same _ _ _ _ h.trans h.stays) c.step_holds.ensures e in
    λ source k. second_fails (state_fits (instances_of source) u && label_fits (instances_of source) l) (step_holds (instances_of source) s l u) (invar_holds (instances_of source) u) ValueOutside TransFails InvarFails (values_fit source k) (goes false c.if-not-step_holds.true source k)

pub invar_holds-requires : goal.invar_holds-requires
invar_holds-requires c =
    let s = c.requires.rows.0 in
    let l = c.requires.rows.1 in
    let u = c.requires.rows.2 in
    let h = c.requires.rows.3 in
    let flat = c.args.flat.now in
    let m = c.requires.model in
    let values = c.args.row.now.values.items in
    let g = h.given in
    let fits = told flat values c.as_slice.result.now c.items_fit.result true c.as_slice.ensures.value c.items_fit.ensures c.if-not-items_fit.false in
    let new = c.evaluate.new.self.values.items in
    let row = c.evaluate.ensures.values u l g in
    let state : (source : PlainSource) → IsFlatOf source (parts_plain flat) → IsTrue (state_fits (instances_of source) u) = λ source k. (both_fit flat source k u l values g fits).0 in
    let label : (source : PlainSource) → IsFlatOf source (parts_plain flat) → IsTrue (label_fits (instances_of source) l) = λ source k. (both_fit flat source k u l values g fits).1 in
    let values_fit : (source : PlainSource) → IsFlatOf source (parts_plain flat) → (state_fits (instances_of source) u && label_fits (instances_of source) l) ≡ true =
    λ source k. both_same _ _ true true (state source k) (label source k) in
    rows_safe flat m.0 m.1 u l u l (state m.0 m.1) (label m.0 m.1) (state m.0 m.1) (label m.0 m.1) (row_values new) (row_values new) row row

pub returns-then-not-invar_holds-clause-clause : goal.returns-then-not-invar_holds-clause-clause
returns-then-not-invar_holds-clause-clause c = λ s l u h.
    let flat = c.args.flat.now in
    let m = c.requires.model in
    let values = c.args.row.now.values.items in
    let g = h.given in
    let fits = told flat values c.as_slice.result.now c.items_fit.result true c.as_slice.ensures.value c.items_fit.ensures c.if-not-items_fit.false in
    let new = c.evaluate.new.self.values.items in
    let row = c.evaluate.ensures.values u l g in
    let state : (source : PlainSource) → IsFlatOf source (parts_plain flat) → IsTrue (state_fits (instances_of source) u) = λ source k. (both_fit flat source k u l values g fits).0 in
    let label : (source : PlainSource) → IsFlatOf source (parts_plain flat) → IsTrue (label_fits (instances_of source) l) = λ source k. (both_fit flat source k u l values g fits).1 in
    let values_fit : (source : PlainSource) → IsFlatOf source (parts_plain flat) → (state_fits (instances_of source) u && label_fits (instances_of source) l) ≡ true =
    λ source k. both_same _ _ true true (state source k) (label source k) in
    let old = c.give_label.new.self.values.items in
    let before = c.give_label.ensures.row s h.row_before.label l u h.row_before.row g in
    let goes : (b : Bool) → c.step_holds.result ≡ b → (source : PlainSource) → IsFlatOf source (parts_plain flat) → step_holds (instances_of source) s l u ≡ b =
    λ b e source k.
    let h = rows_true flat source k s l u l (row_values old) (row_values new) before row in
    truth_is _ _ b c.step_holds.result (both_same _ _ _ _ h.trans h.stays) c.step_holds.ensures e in
    let true_of : (source : PlainSource) → IsFlatOf source (parts_plain flat) → HasTruth (instances_of source) (parts_plain flat) u l u (row_values new) (row_values new) =
    λ source k. rows_true flat source k u l u l (row_values new) (row_values new) row row in
    let invar : (b : Bool) → c.invar_holds.result ≡ b → (source : PlainSource) → IsFlatOf source (parts_plain flat) → invar_holds (instances_of source) u ≡ b =
    λ b e source k. truth_is _ _ b c.invar_holds.result (true_of source k).invar c.invar_holds.ensures e in
    λ source k. third_fails (state_fits (instances_of source) u && label_fits (instances_of source) l) (step_holds (instances_of source) s l u) (invar_holds (instances_of source) u) ValueOutside TransFails InvarFails (values_fit source k) (goes true c.if-not-step_holds.false source k) (invar false c.if-not-invar_holds.true source k)

pub returns-clause-clause : goal.returns-clause-clause
returns-clause-clause c = λ s l u h.
    let flat = c.args.flat.now in
    let m = c.requires.model in
    let values = c.args.row.now.values.items in
    let g = h.given in
    let fits = told flat values c.as_slice.result.now c.items_fit.result true c.as_slice.ensures.value c.items_fit.ensures c.if-not-items_fit.false in
    let new = c.evaluate.new.self.values.items in
    let row = c.evaluate.ensures.values u l g in
    let state : (source : PlainSource) → IsFlatOf source (parts_plain flat) → IsTrue (state_fits (instances_of source) u) = λ source k. (both_fit flat source k u l values g fits).0 in
    let label : (source : PlainSource) → IsFlatOf source (parts_plain flat) → IsTrue (label_fits (instances_of source) l) = λ source k. (both_fit flat source k u l values g fits).1 in
    let values_fit : (source : PlainSource) → IsFlatOf source (parts_plain flat) → (state_fits (instances_of source) u && label_fits (instances_of source) l) ≡ true =
    λ source k. both_same _ _ true true (state source k) (label source k) in
    let old = c.give_label.new.self.values.items in
    let before = c.give_label.ensures.row s h.row_before.label l u h.row_before.row g in
    let goes : (b : Bool) → c.step_holds.result ≡ b → (source : PlainSource) → IsFlatOf source (parts_plain flat) → step_holds (instances_of source) s l u ≡ b =
    λ b e source k.
    let h = rows_true flat source k s l u l (row_values old) (row_values new) before row in
    truth_is _ _ b c.step_holds.result (both_same _ _ _ _ h.trans h.stays) c.step_holds.ensures e in
    let true_of : (source : PlainSource) → IsFlatOf source (parts_plain flat) → HasTruth (instances_of source) (parts_plain flat) u l u (row_values new) (row_values new) =
    λ source k. rows_true flat source k u l u l (row_values new) (row_values new) row row in
    let invar : (b : Bool) → c.invar_holds.result ≡ b → (source : PlainSource) → IsFlatOf source (parts_plain flat) → invar_holds (instances_of source) u ≡ b =
    λ b e source k. truth_is _ _ b c.invar_holds.result (true_of source k).invar c.invar_holds.ensures e in
    λ source k. none_fails (state_fits (instances_of source) u && label_fits (instances_of source) l) (step_holds (instances_of source) s l u) (invar_holds (instances_of source) u) ValueOutside TransFails InvarFails (values_fit source k) (goes true c.if-not-step_holds.false source k) (invar true c.if-not-invar_holds.false source k)

pub returns-clause-row : goal.returns-clause-row
returns-clause-row c = λ s l u h.
    let flat = c.args.flat.now in
    let m = c.requires.model in
    let values = c.args.row.now.values.items in
    let g = h.given in
    let fits = told flat values c.as_slice.result.now c.items_fit.result true c.as_slice.ensures.value c.items_fit.ensures c.if-not-items_fit.false in
    let new = c.evaluate.new.self.values.items in
    let row = c.evaluate.ensures.values u l g in
    let state : (source : PlainSource) → IsFlatOf source (parts_plain flat) → IsTrue (state_fits (instances_of source) u) = λ source k. (both_fit flat source k u l values g fits).0 in
    let label : (source : PlainSource) → IsFlatOf source (parts_plain flat) → IsTrue (label_fits (instances_of source) l) = λ source k. (both_fit flat source k u l values g fits).1 in
    let values_fit : (source : PlainSource) → IsFlatOf source (parts_plain flat) → (state_fits (instances_of source) u && label_fits (instances_of source) l) ≡ true =
    λ source k. both_same _ _ true true (state source k) (label source k) in
    λ e. record { size = c.evaluate.ensures.size ∙ g.size; label = l; row = row; state_fits = state; label_fits = label }

pub returns-clause-before : goal.returns-clause-before
returns-clause-before c = λ s l u h.
    λ e. c.give_label.ensures.row s h.row_before.label l u h.row_before.row h.given

use Rattle.std.proofs.Common.{◌≡◌, Bool, true, false, IsTrue, ◌∙◌}
use Rattle.text_core.specs.declared.verdict.Clause.TheVariants.{ValueOutside, InitFails, InvarFails}
use Rattle.smv_text.specs.Tree.{PlainSource}
use Rattle.smv_meaning.specs.Instances.{instances_of}
use Rattle.smv_meaning.specs.Runs.{state_fits, init_holds, invar_holds}
use Rattle.smv_flat_laws.specs.FlatLaws.{HasTruth}
use Rattle.smv_flat_evaluation.specs.RowValues.{row_values}
use Rattle.smv_flat.specs.FlatParts.{parts_plain}
use Rattle.smv_flatten.specs.FlatModel.{IsFlatOf}
use Rattle.smv_judge.proofs.StepLaws.{told, truth_is, both_fit, state_unfit, rows_safe, rows_true, can_fill, first_fails, second_fails, third_fails, none_fails}
use Rattle.smv_judge.proofs.steps.first_failure.Goals as goal

pub returns-then-not-items_fit-clause-clause : goal.returns-then-not-items_fit-clause-clause
returns-then-not-items_fit-clause-clause c = λ s l h.
    let flat = c.args.flat.now in
    let m = c.requires.model in
    let values = c.args.row.now.values.items in
    let g = h.given in
    let unfit = told flat values c.as_slice.result.now c.items_fit.result false c.as_slice.ensures.value c.items_fit.ensures c.if-not-items_fit.true in
    λ source k. first_fails (state_fits (instances_of source) s) (init_holds (instances_of source) s) (invar_holds (instances_of source) s) ValueOutside InitFails InvarFails (state_unfit flat source k s l values g unfit h.label_fits)

pub evaluate-requires-clause-safe : goal.evaluate-requires-clause-safe
evaluate-requires-clause-safe c =
    let s = c.requires.rows.0 in
    let l = c.requires.rows.1 in
    let h = c.requires.rows.2 in
    let flat = c.args.flat.now in
    let m = c.requires.model in
    let values = c.args.row.now.values.items in
    let g = h.given in
    let fits = told flat values c.as_slice.result.now c.items_fit.result true c.as_slice.ensures.value c.items_fit.ensures c.if-not-items_fit.false in
    can_fill flat m s l values g fits

pub init_holds-requires : goal.init_holds-requires
init_holds-requires c =
    let s = c.requires.rows.0 in
    let l = c.requires.rows.1 in
    let h = c.requires.rows.2 in
    let flat = c.args.flat.now in
    let m = c.requires.model in
    let values = c.args.row.now.values.items in
    let g = h.given in
    let fits = told flat values c.as_slice.result.now c.items_fit.result true c.as_slice.ensures.value c.items_fit.ensures c.if-not-items_fit.false in
    let new = c.evaluate.new.self.values.items in
    let row = c.evaluate.ensures.values s l g in
    let state : (source : PlainSource) → IsFlatOf source (parts_plain flat) → IsTrue (state_fits (instances_of source) s) = λ source k. (both_fit flat source k s l values g fits).0 in
    rows_safe flat m.0 m.1 s l s l (state m.0 m.1) (h.label_fits m.0 m.1) (state m.0 m.1) (h.label_fits m.0 m.1) (row_values new) (row_values new) row row

pub returns-then-not-init_holds-clause-clause : goal.returns-then-not-init_holds-clause-clause
returns-then-not-init_holds-clause-clause c = λ s l h.
    let flat = c.args.flat.now in
    let m = c.requires.model in
    let values = c.args.row.now.values.items in
    let g = h.given in
    let fits = told flat values c.as_slice.result.now c.items_fit.result true c.as_slice.ensures.value c.items_fit.ensures c.if-not-items_fit.false in
    let new = c.evaluate.new.self.values.items in
    let row = c.evaluate.ensures.values s l g in
    let state : (source : PlainSource) → IsFlatOf source (parts_plain flat) → IsTrue (state_fits (instances_of source) s) = λ source k. (both_fit flat source k s l values g fits).0 in
    let true_of : (source : PlainSource) → IsFlatOf source (parts_plain flat) → HasTruth (instances_of source) (parts_plain flat) s l s (row_values new) (row_values new) =
    λ source k. rows_true flat source k s l s l (row_values new) (row_values new) row row in
    let init : (b : Bool) → c.init_holds.result ≡ b → (source : PlainSource) → IsFlatOf source (parts_plain flat) → init_holds (instances_of source) s ≡ b =
    λ b e source k. truth_is _ _ b c.init_holds.result (true_of source k).init c.init_holds.ensures e in
    λ source k. second_fails (state_fits (instances_of source) s) (init_holds (instances_of source) s) (invar_holds (instances_of source) s) ValueOutside InitFails InvarFails (state source k) (init false c.if-not-init_holds.true source k)

pub invar_holds-requires : goal.invar_holds-requires
invar_holds-requires c =
    let s = c.requires.rows.0 in
    let l = c.requires.rows.1 in
    let h = c.requires.rows.2 in
    let flat = c.args.flat.now in
    let m = c.requires.model in
    let values = c.args.row.now.values.items in
    let g = h.given in
    let fits = told flat values c.as_slice.result.now c.items_fit.result true c.as_slice.ensures.value c.items_fit.ensures c.if-not-items_fit.false in
    let new = c.evaluate.new.self.values.items in
    let row = c.evaluate.ensures.values s l g in
    let state : (source : PlainSource) → IsFlatOf source (parts_plain flat) → IsTrue (state_fits (instances_of source) s) = λ source k. (both_fit flat source k s l values g fits).0 in
    rows_safe flat m.0 m.1 s l s l (state m.0 m.1) (h.label_fits m.0 m.1) (state m.0 m.1) (h.label_fits m.0 m.1) (row_values new) (row_values new) row row

pub returns-then-not-invar_holds-clause-clause : goal.returns-then-not-invar_holds-clause-clause
returns-then-not-invar_holds-clause-clause c = λ s l h.
    let flat = c.args.flat.now in
    let m = c.requires.model in
    let values = c.args.row.now.values.items in
    let g = h.given in
    let fits = told flat values c.as_slice.result.now c.items_fit.result true c.as_slice.ensures.value c.items_fit.ensures c.if-not-items_fit.false in
    let new = c.evaluate.new.self.values.items in
    let row = c.evaluate.ensures.values s l g in
    let state : (source : PlainSource) → IsFlatOf source (parts_plain flat) → IsTrue (state_fits (instances_of source) s) = λ source k. (both_fit flat source k s l values g fits).0 in
    let true_of : (source : PlainSource) → IsFlatOf source (parts_plain flat) → HasTruth (instances_of source) (parts_plain flat) s l s (row_values new) (row_values new) =
    λ source k. rows_true flat source k s l s l (row_values new) (row_values new) row row in
    let init : (b : Bool) → c.init_holds.result ≡ b → (source : PlainSource) → IsFlatOf source (parts_plain flat) → init_holds (instances_of source) s ≡ b =
    λ b e source k. truth_is _ _ b c.init_holds.result (true_of source k).init c.init_holds.ensures e in
    let invar : (b : Bool) → c.invar_holds.result ≡ b → (source : PlainSource) → IsFlatOf source (parts_plain flat) → invar_holds (instances_of source) s ≡ b =
    λ b e source k. truth_is _ _ b c.invar_holds.result (true_of source k).invar c.invar_holds.ensures e in
    λ source k. third_fails (state_fits (instances_of source) s) (init_holds (instances_of source) s) (invar_holds (instances_of source) s) ValueOutside InitFails InvarFails (state source k) (init true c.if-not-init_holds.false source k) (invar false c.if-not-invar_holds.true source k)

pub returns-clause-clause : goal.returns-clause-clause
returns-clause-clause c = λ s l h.
    let flat = c.args.flat.now in
    let m = c.requires.model in
    let values = c.args.row.now.values.items in
    let g = h.given in
    let fits = told flat values c.as_slice.result.now c.items_fit.result true c.as_slice.ensures.value c.items_fit.ensures c.if-not-items_fit.false in
    let new = c.evaluate.new.self.values.items in
    let row = c.evaluate.ensures.values s l g in
    let state : (source : PlainSource) → IsFlatOf source (parts_plain flat) → IsTrue (state_fits (instances_of source) s) = λ source k. (both_fit flat source k s l values g fits).0 in
    let true_of : (source : PlainSource) → IsFlatOf source (parts_plain flat) → HasTruth (instances_of source) (parts_plain flat) s l s (row_values new) (row_values new) =
    λ source k. rows_true flat source k s l s l (row_values new) (row_values new) row row in
    let init : (b : Bool) → c.init_holds.result ≡ b → (source : PlainSource) → IsFlatOf source (parts_plain flat) → init_holds (instances_of source) s ≡ b =
    λ b e source k. truth_is _ _ b c.init_holds.result (true_of source k).init c.init_holds.ensures e in
    let invar : (b : Bool) → c.invar_holds.result ≡ b → (source : PlainSource) → IsFlatOf source (parts_plain flat) → invar_holds (instances_of source) s ≡ b =
    λ b e source k. truth_is _ _ b c.invar_holds.result (true_of source k).invar c.invar_holds.ensures e in
    λ source k. none_fails (state_fits (instances_of source) s) (init_holds (instances_of source) s) (invar_holds (instances_of source) s) ValueOutside InitFails InvarFails (state source k) (init true c.if-not-init_holds.false source k) (invar true c.if-not-invar_holds.false source k)

pub returns-clause-row : goal.returns-clause-row
returns-clause-row c = λ s l h.
    let flat = c.args.flat.now in
    let m = c.requires.model in
    let values = c.args.row.now.values.items in
    let g = h.given in
    let fits = told flat values c.as_slice.result.now c.items_fit.result true c.as_slice.ensures.value c.items_fit.ensures c.if-not-items_fit.false in
    let new = c.evaluate.new.self.values.items in
    let row = c.evaluate.ensures.values s l g in
    let state : (source : PlainSource) → IsFlatOf source (parts_plain flat) → IsTrue (state_fits (instances_of source) s) = λ source k. (both_fit flat source k s l values g fits).0 in
    λ e. record { size = c.evaluate.ensures.size ∙ g.size; label = l; row = row; state_fits = state; label_fits = h.label_fits }

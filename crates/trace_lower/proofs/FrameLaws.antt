-- The frame of a row is that of the model's state and label.
use Rattle.std.proofs.Common.{◌≡◌, ℕ, zero, suc, ◌+◌, ◌<◌, ◌==◌, if◌then◌else◌, List, [], ◌∷◌, ◌++◌, length, refl, sym, ap, ◌∙◌, subst, arith}
use Rattle.std.proofs.lemmas.List.{length-append, length-map}
use Rattle.btor_witness.specs.declared.witness.Stated.{Stated}
use Rattle.btor_witness.specs.declared.witness.Frame.{Frame}
use Rattle.smv_text.specs.Tree.{PlainSource}
use Rattle.smv_meaning.specs.declared.value.Given.{Given}
use Rattle.smv_meaning.specs.Values.{given}
use Rattle.smv_meaning.specs.Instances.{instances_of}
use Rattle.smv_meaning.specs.Phases.{IsAccepted}
use Rattle.smv_meaning.specs.Settled.{Acyclic}
use Rattle.smv_laws.proofs.Ranked.{cycles_are_checked_law}
use Rattle.smv_laws.proofs.SafeExpressions.{accepted_is_checked_law}
use Rattle.smv_items.specs.FlatItems.{PlainFlatItem}
use Rattle.smv_flat.specs.FlatForms.{PlainFlat, flat_smv}
use Rattle.smv_flat.specs.FlatTruth.{Row, IsRow}
use Rattle.smv_flat_laws.specs.FlatLaws.{row_of}
use Rattle.smv_flat_laws.proofs.FlatRows.{row_is_one_law}
use Rattle.smv_flat.specs.FlatWidth.{width_of}
use Rattle.smv_script.specs.Codes.{datum_of}
use Rattle.smv_script.specs.Script.{Group, inputs, outputs, locals, check_of, items_in, place_of_item, symbol_sort, variable_of, variables_in}
use Rattle.smv_script_laws.specs.Decoding.{datum_from}
use Rattle.smv_script_laws.specs.EnvironmentLaws.{environment_in}
use Rattle.moxi_terms.specs.declared.term.Enumeration.{Enumeration}
use Rattle.moxi_terms.specs.Value.{Values, at}
use Rattle.moxi_scripts.specs.Valid.{check_variables}
use Rattle.moxi_lines.specs.Codes.{code_of}
use Rattle.moxi_lift.specs.Lifted.{values_upto}
use Rattle.moxi_lift.proofs.Upto.{at_upto}
use Rattle.moxi_lower.specs.Lowered.{codes_upto, stated_code}
use Rattle.witness_lift.specs.LineLaws.{model_system}
use Rattle.trace_lower.specs.Stating.{Codes, IsCodedOf, frame_of, model_frame, values_of, variable_count}

-- ---- rows with the same values

datum_same : (width : ℕ) (symbols : List (List ℕ)) (place : ℕ → ℕ) (row other : Row) (v k : ℕ) (ms : List PlainFlatItem) → ((i : ℕ) → i < k + length ms → row i ≡ other i)
    → datum_from width symbols place row v k ms ≡ datum_from width symbols place other v k ms
datum_same width symbols place row other v k [] h = refl
datum_same width symbols place row other v k (m ∷ ms) h =
    ap (λ x. if place k == v then datum_of width symbols x else datum_from width symbols place row v (k + 1) ms) (h k (omega arith))
    ∙ ap (λ d. if place k == v then datum_of width symbols (other k) else d) (datum_same width symbols place row other v (k + 1) ms (λ i l. h i (omega (arith, l))))

pub codes_same : (es : List Enumeration) (a b : Values) (n : ℕ) → ((v : ℕ) → v < n → a v ≡ b v) → codes_upto es a n ≡ codes_upto es b n
codes_same es a b zero e = refl
codes_same es a b (suc n) e =
    ap (λ (xs : List Stated). xs ++ stated_code es a n ∷ []) (codes_same es a b n (λ v h. e v (omega (arith, h))))
    ∙ ap (λ d. let s : Stated = record { index = n; value = code_of es d } in codes_upto es b n ++ s ∷ []) (e n (omega arith))

-- ---- the variables of a model's system

pub model_count : (source : PlainSource) → length (model_system source).variables ≡ variable_count (flat_smv source).items
model_count source =
    let f = flat_smv source in
    let w = width_of f in
    let vs = λ (g : Group). variables_in w g f.items in
    let all : length (model_system source).variables ≡ length (check_variables (check_of f w)) + 0 = length-append (check_variables (check_of f w)) [] in
    let both : length (check_variables (check_of f w)) ≡ length (vs inputs) + length (vs outputs ++ vs locals) = length-append (vs inputs) (vs outputs ++ vs locals) in
    let rest : length (vs outputs ++ vs locals) ≡ length (vs outputs) + length (vs locals) = length-append (vs outputs) (vs locals) in
    let a : length (vs inputs) ≡ length (items_in inputs f.items) = length-map (items_in inputs f.items) (variable_of w) in
    let b : length (vs outputs) ≡ length (items_in outputs f.items) = length-map (items_in outputs f.items) (variable_of w) in
    let c : length (vs locals) ≡ length (items_in locals f.items) = length-map (items_in locals f.items) (variable_of w) in
    omega (arith, all, both, rest, a, b, c)

-- ---- frames

pub acyclic : (source : PlainSource) (needed : ℕ) → IsAccepted source needed → Acyclic (instances_of source)
acyclic source needed accepted = (cycles_are_checked_law (instances_of source)).0 (accepted_is_checked_law source needed accepted).cycles

abbrev codes_in : PlainSource → Codes
codes_in source = record { width = width_of (flat_smv source); symbols = (flat_smv source).symbols }

abbrev frame_with : List Stated → Frame
frame_with xs = record { states = []; inputs = xs }

frame_in : (source : PlainSource) (needed : ℕ) → IsAccepted source needed → (s l : List Given) (row : Row) → IsRow (flat_smv source) (given s) (given l) row
    → frame_of (codes_in source) (flat_smv source).items row ≡ model_frame source s l
frame_in source needed accepted s l row r =
    let t = instances_of source in
    let f = flat_smv source in
    let w = width_of f in
    let n = length (model_system source).variables in
    let es = symbol_sort f.symbols in
    let stated = values_of (codes_in source) f.items row in
    let values = environment_in t w (given s) (given l) in
    let same : (v : ℕ) → v < n → stated v ≡ at (values_upto values n) v = λ v h.
    datum_same w f.symbols (place_of_item f.items) row (row_of t (given s) (given l)) v 0 f.items (λ i b. row_is_one_law t (acyclic source needed accepted) (given s) (given l) row r i (omega (arith, b)))
    ∙ sym (at_upto values n v h) in
    ap (λ k. frame_with (codes_upto es stated k)) (sym (model_count source)) ∙ ap frame_with (codes_same es stated (at (values_upto values n)) n same)

pub frame_told : (source : PlainSource) (flat : PlainFlat) (c : Codes) → IsCodedOf source flat c → (s l : List Given) (row : Row) → IsRow flat (given s) (given l) row → frame_of c flat.items row ≡ model_frame source s l
frame_told source flat c m s l row r =
    let symbols : c.symbols ≡ (flat_smv source).symbols = m.symbols ∙ ap (λ (f : PlainFlat). f.symbols) m.form.form in
    ap (λ (f : PlainFlat). frame_of c f.items row) m.form.form
    ∙ ap (λ (w : ℕ). let d : Codes = record { width = w; symbols = c.symbols } in frame_of d (flat_smv source).items row) m.width
    ∙ ap (λ (xs : List (List ℕ)). let d : Codes = record { width = width_of (flat_smv source); symbols = xs } in frame_of d (flat_smv source).items row) symbols
    ∙ frame_in source m.form.needed m.form.accepted s l row (subst (λ (f : PlainFlat). IsRow f (given s) (given l) row) m.form.form r)

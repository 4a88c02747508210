-- Frames along the states of a run.
use Rattle.std.proofs.Common.{◌≡◌, ◌+◌, ◌<◌, ◌≤◌, ◌^◌, List, [], ◌∷◌, ◌++◌, length, map, refl, sym, ap, ◌∙◌, subst, arith}
use Rattle.std.proofs.lemmas.List.{length-append}
use Rattle.btor_witness.specs.declared.witness.Frame.{Frame}
use Rattle.smv_text.specs.Tree.{PlainSource}
use Rattle.smv_meaning.specs.declared.value.Given.{Given}
use Rattle.smv_meaning.specs.Instances.{weight_of}
use Rattle.smv_items.specs.FlatItems.{PlainFlatItem}
use Rattle.smv_flat.specs.FlatForms.{PlainFlat, flat_smv}
use Rattle.smv_flat.specs.FlatTruth.{Row}
use Rattle.smv_flat.specs.FlatWidth.{width_of}
use Rattle.smv_flatten.specs.FlatModel.{FlatModel, flat_plain, IsFormOf, IsFlatOf}
use Rattle.smv_flatten.proofs.Forms.{form_is_flat}
use Rattle.smv_judge.specs.Labels.{first_label}
use Rattle.smv_judge.specs.Taken.{AreRowsOf, labels_left, next_or}
use Rattle.smv_script_laws.proofs.Weights.{counts_by_weight}
use Rattle.smv_script.specs.Script.{check_of}
use Rattle.moxi_scripts.specs.Valid.{check_variables}
use Rattle.witness_lift.specs.LineLaws.{model_system}
use Rattle.witness_lift.proofs.Models.{weight_fits}
use Rattle.trace_lower.specs.Lowered.{next_label}
use Rattle.trace_lower.specs.Stating.{Codes, IsCodedOf, frame_of, model_frame, model_frames, variable_count}
use Rattle.trace_lower.proofs.FrameLaws.{frame_told, model_count}

-- ---- the label of a state

next_is : (source : PlainSource) (last : List Given) → last ≡ first_label (flat_smv source).items → (labels : List (List Given)) → next_or last labels ≡ next_label source labels
next_is source last e [] = e
next_is source last e (l ∷ labels) = refl

-- ---- the frames of rows

pub frames_are : (source : PlainSource) (flat : PlainFlat) (c : Codes) → IsCodedOf source flat c → (last : List Given) → last ≡ first_label (flat_smv source).items → (states labels : List (List Given)) (rows : List Row)
    → AreRowsOf flat last states labels rows → map (frame_of c flat.items) rows ≡ model_frames source states labels
frames_are source flat c m last first [] labels [] a = refl
frames_are source flat c m last first [] labels (r ∷ rows) a = absurd a
frames_are source flat c m last first (s ∷ states) labels [] a = absurd a
frames_are source flat c m last first (s ∷ states) labels (r ∷ rows) a =
    ap (λ (f : Frame). f ∷ map (frame_of c flat.items) rows) (frame_told source flat c m s (next_or last labels) r a.0 ∙ ap (model_frame source s) (next_is source last first labels))
    ∙ ap (λ (fs : List Frame). model_frame source s (next_label source labels) ∷ fs) (frames_are source flat c m last first states (labels_left labels) rows a.1)

-- ---- a model

-- its items are few, since each has a token
pub few_items : (source : PlainSource) (flat : PlainFlat) → IsFlatOf source flat → variable_count flat.items < 2 ^ 32
few_items source flat m =
    let w = width_of (flat_smv source) in
    let vs = check_variables (check_of (flat_smv source) w) in
    let counts : length vs + length (check_of (flat_smv source) w).queries ≤ weight_of source = counts_by_weight source m.read.end m.read.tokens m.read.spelled w in
    let light = weight_fits source m.needed m.accepted in
    let all : length (model_system source).variables ≡ length vs + 0 = length-append vs [] in
    let count = model_count source in
    let large : 2 ^ 32 ≡ 4294967296 = refl in
    subst (λ (f : PlainFlat). variable_count f.items < 2 ^ 32) (sym m.form) (omega (arith, counts, light, all, count, large))

pub form_is_coded : (source : PlainSource) (f : FlatModel) (c : Codes) → IsFormOf source f → c.width ≡ f.width → c.symbols ≡ f.symbols → IsCodedOf source (flat_plain f) c
form_is_coded source f c m width symbols = record { form = form_is_flat source f m; width = width ∙ m.width; symbols = symbols }

-- the frames of the rows that were taken are those of the run
pub taken_are : (source : PlainSource) (f : FlatModel) (c : Codes) (states labels : List (List Given)) (none frames : List Frame) → IsFormOf source f → c.width ≡ f.width → c.symbols ≡ f.symbols → (items : List PlainFlatItem) → items ≡ (flat_plain f).items
    → (rows : List Row) → none ≡ [] → frames ≡ none ++ map (frame_of c items) rows → AreRowsOf (flat_plain f) (first_label (flat_plain f).items) states labels rows → frames ≡ model_frames source states labels
taken_are source f c states labels none frames m width symbols items same rows empty e a =
    let first : first_label (flat_plain f).items ≡ first_label (flat_smv source).items = ap (λ (x : PlainFlat). first_label x.items) m.form in
    e ∙ ap (λ (fs : List Frame). fs ++ map (frame_of c items) rows) empty
    ∙ ap (λ (ms : List PlainFlatItem). map (frame_of c ms) rows) same
    ∙ frames_are source (flat_plain f) c (form_is_coded source f c m width symbols) (first_label (flat_plain f).items) first states labels rows a

-- The run of an accepted witness, whose states and labels are read frame by frame.
use Rattle.std.proofs.Common.{◌≡◌, ℕ, zero, suc, ◌+◌, ◌-◌, ◌<◌, ◌≤◌, ◌==◌, Bool, true, false, if◌then◌else◌, List, [], ◌∷◌, ◌++◌, length, map, take, refl, sym, ap, ◌∙◌, arith}
use Rattle.std.specs.Prelude.{slice_index_or}
use Rattle.std.proofs.lemmas.Bool.Decides.{nat_tests}
use Rattle.std.proofs.lemmas.List.{get_or-take, length-map, length-take-le}
use Rattle.btor_witness.specs.declared.witness.Frame.{Frame}
use Rattle.btor_witness.specs.declared.witness.Witness.{Witness}
use Rattle.smv_meaning.specs.declared.value.Given.{Given}
use Rattle.smv_meaning.specs.declared.value.Run.{Run}
use Rattle.smv_flatten.specs.FlatModel.{FlatModel}
use Rattle.moxi_terms.specs.declared.data.Datum.{Datum}
use Rattle.moxi_lift.specs.Lifted.{lifted}
use Rattle.smv_to_moxi.specs.Lifting.{IsStepOf, IsTraceOf, label_of, state_of}
use Rattle.smv_to_moxi.proofs.LiftedParts.{take_whole}
use Rattle.smv_to_moxi.proofs.LiftedSteps.{mapped_more, mapped_end, run_read, same_run, step_here}
use Rattle.witness_lift.specs.Lifting.{lifted_run, step_in, system_in}

map_at : {X Y : Type 0} (g : X → Y) (xs : List X) (i : ℕ) (x : X) → i < length xs → x ≡ slice_index_or xs i x → g x ≡ slice_index_or (map g xs) i (g x)
map_at g [] i x l e = absurd (omega (arith, l))
map_at g (y ∷ xs) zero x l e = ap g e
map_at g (y ∷ xs) (suc i) x l e = map_at g xs i x (omega (arith, l)) e

same_numbers : (a b : ℕ) → (a == b) ≡ true → a ≡ b
same_numbers a b h = grind (arith, nat_tests)

other_numbers : (a b : ℕ) → (a == b) ≡ false → a ≡ b → ⊥
other_numbers a b h e = grind (arith, nat_tests)

-- all steps but the last
abbrev pub front : List (List Datum) → List (List Datum)
front envs = take (length envs - 1) envs

front_long : (envs : List (List Datum)) → length (front envs) ≡ length envs - 1
front_long envs = length-take-le (length envs - 1) envs (omega arith)

module _ (f : FlatModel) (w : Witness) where
  abbrev pub steps : List (List Datum)
  steps = lifted (system_in f) w

  steps_long : length steps ≡ length w.frames
  steps_long = length-map w.frames (λ (x : Frame). step_in f x.inputs)

  module _ (i : ℕ) (x : Frame) (l : i < length w.frames) (e : x ≡ slice_index_or w.frames i x) where
    step_at : step_in f x.inputs ≡ slice_index_or steps i (step_in f x.inputs)
    step_at = map_at (λ (y : Frame). step_in f y.inputs) w.frames i x l e

    inside : i < length steps
    inside = omega (arith, l, steps_long)

    pub is_step : IsTraceOf f steps → IsStepOf f (step_in f x.inputs)
    is_step t = step_here (IsStepOf f) steps i (step_in f x.inputs) t.steps inside step_at

    pub states_more : (old new : List (List Given)) → old ≡ map (state_of f) (take i steps) → new ≡ old ++ state_of f (step_in f x.inputs) ∷ [] → new ≡ map (state_of f) (take (i + 1) steps)
    states_more old new before pushed = mapped_more (state_of f) steps i (step_in f x.inputs) old new (state_of f (step_in f x.inputs)) inside step_at before refl pushed

    pub labels_more : (is_last : Bool) → is_last ≡ (i + 1 == length w.frames) → (old new : List (List Given)) → old ≡ map (label_of f) (take i (front steps))
        → new ≡ (if is_last then old else old ++ label_of f (step_in f x.inputs) ∷ []) → new ≡ map (label_of f) (take (i + 1) (front steps))
    labels_more true last old new before pushed =
        let end : i + 1 ≡ length w.frames = same_numbers (i + 1) (length w.frames) (sym last) in
        let long = front_long steps in
        let many = steps_long in
        pushed ∙ before ∙ ap (map (label_of f)) (take_whole (front steps) i (omega (arith, long, many, end)) ∙ sym (take_whole (front steps) (i + 1) (omega (arith, long, many, end))))
    labels_more false last old new before pushed =
        let more : i + 1 < length w.frames = before_end (other_numbers (i + 1) (length w.frames) (sym last)) in
        let long = front_long steps in
        let many = steps_long in
        let within : i < length steps - 1 = omega (arith, many, more) in
        let there : step_in f x.inputs ≡ slice_index_or (front steps) i (step_in f x.inputs) = step_at ∙ sym (get_or-take (length steps - 1) steps i (step_in f x.inputs) within) in
        mapped_more (label_of f) (front steps) i (step_in f x.inputs) old new (label_of f (step_in f x.inputs)) (omega (arith, within, long)) there before refl pushed
      where
        before_end : (i + 1 ≡ length w.frames → ⊥) → i + 1 < length w.frames
        before_end n = grind (arith, l, n)

  pub run_is_lifted : (i : ℕ) (run : Run) → length w.frames ≤ i → 1 ≤ length steps → run.states ≡ map (state_of f) (take i steps) → run.labels ≡ map (label_of f) (take i (front steps)) → run ≡ lifted_run f w
  run_is_lifted i run l some states labels =
      let many = steps_long in
      let long = front_long steps in
      same_run run.states (map (state_of f) steps) run.labels (map (label_of f) (front steps))
      (mapped_end (state_of f) steps i run.states (omega (arith, l, many)) states) (mapped_end (label_of f) (front steps) i run.labels (omega (arith, l, many, long)) labels)
      ∙ run_read f steps some

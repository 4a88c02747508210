-- A witness is lifted to what the frames that it states are decoded to.
use Rattle.std.proofs.Common.{◌≡◌, ℕ, zero, suc, ◌<◌, Bool, true, List, [], ◌∷◌, length, map, Some, refl, sym, ap, ◌∙◌, arith}
use Rattle.std.specs.Prelude.{slice_get, slice_index_or}
use Rattle.std.proofs.Math.Logic.{∥∥₁_map}
use Rattle.word_core.specs.Words.{BitVector}
use Rattle.btor_tree.specs.declared.lines.Line.{Line}
use Rattle.btor_tree.specs.Fits.{width_at}
use Rattle.btor_tree.specs.Frame.{word_at}
use Rattle.btor_frames.specs.Judged.{AreStatedAfter, IsStatedFrame, stated_or}
use Rattle.btor_witness.specs.declared.witness.Frame.{Frame}
use Rattle.btor_witness.specs.declared.witness.Witness.{Witness}
use Rattle.btor_witness.specs.Judging.{stated_frames, statement_of}
use Rattle.btor_witness.specs.Printing.{value_of}
use Rattle.moxi_terms.specs.declared.data.Sort.{Sort}
use Rattle.moxi_terms.specs.declared.data.Sort.TheVariants.{Truth}
use Rattle.moxi_terms.specs.declared.term.Variable.{Variable}
use Rattle.moxi_terms.specs.Tree.{sorts_of}
use Rattle.moxi_flat.specs.FlatSystem.{PlainFlatSystem}
use Rattle.moxi_lines.specs.Codes.{sort_bits}
use Rattle.moxi_lines.specs.Decoding.{decoded_datum}
use Rattle.moxi_layout.specs.Layout.{LaysOut, input_at, now_values}
use Rattle.moxi_layout.proofs.Entries.{input_there}
use Rattle.moxi_lift.specs.Lifted.{decoded_frames, lifted, lifted_step, lifted_values, values_upto}
use Rattle.moxi_lift.specs.Laws.{LiftsAreDecoded}
use Rattle.moxi_lift.proofs.Held.{word_held}
use Rattle.moxi_lift.proofs.Upto.{upto_same}

pub sort_get : (vs : List Variable) (v : ℕ) → v < length vs → slice_get (sorts_of vs) v ≡ Some (slice_index_or (sorts_of vs) v Truth)
sort_get [] v h = absurd (omega (arith, h))
sort_get (x ∷ vs) zero h = refl
sort_get (x ∷ vs) (suc v) h = sort_get vs v (omega (arith, h))

-- in a frame that a witness states, the word of each variable's input is the stated one, or zero
abbrev pub InputsAreStated : PlainFlatSystem → List Line → Type 0
InputsAreStated f lines = (begun : Bool) (last : List BitVector) (frame : Frame) (row : List BitVector) → IsStatedFrame lines begun last (statement_of frame) row
    → (v : ℕ) (s : Sort) → slice_get (sorts_of f.variables) v ≡ Some s → word_at row (input_at lines v) ≡ stated_or (value_of frame.inputs v) (sort_bits f.scope.enumerations s)

inputs_stated : (f : PlainFlatSystem) (lines : List Line) → LaysOut f lines → InputsAreStated f lines
inputs_stated f lines lays begun last frame row is v s h =
    let p = input_at lines v in
    let x = input_there f lines lays.order v s h in
    is.inputs p x.0 x.1.there x.1.is ∙ ap (λ n. stated_or (value_of frame.inputs n) (width_at lines p)) x.1.number ∙ ap (stated_or (value_of frame.inputs v)) x.1.width

inputs_held : (f : PlainFlatSystem) (lines : List Line) → ∥ LaysOut f lines ∥₁ → InputsAreStated f lines
inputs_held f lines lays begun last frame row is v s h = word_held _ _ (∥∥₁_map lays (λ (l : LaysOut f lines). inputs_stated f lines l begun last frame row is v s h))

module _ (f : PlainFlatSystem) (lines : List Line) (stated : InputsAreStated f lines) where
  step_decoded : (begun : Bool) (last : List BitVector) (frame : Frame) (row : List BitVector) → IsStatedFrame lines begun last (statement_of frame) row
      → lifted_step f.scope.enumerations f.variables frame.inputs ≡ values_upto (now_values f lines row) (length f.variables)
  step_decoded begun last frame row is =
      let es = f.scope.enumerations in
      let vs = f.variables in
      upto_same (lifted_values es vs frame.inputs) (now_values f lines row) (length vs) (λ v h.
      let s = slice_index_or (sorts_of vs) v Truth in
      sym (ap (decoded_datum es s) (stated begun last frame row is v s (sort_get vs v h))))

  pub steps_decoded : (begun : Bool) (last : List BitVector) (frames : List Frame) (rows : List (List BitVector)) → AreStatedAfter lines begun last (map statement_of frames) rows
      → map (λ (frame : Frame). lifted_step f.scope.enumerations f.variables frame.inputs) frames ≡ map (λ row. values_upto (now_values f lines row) (length f.variables)) rows
  steps_decoded begun last [] [] a = refl
  steps_decoded begun last [] (row ∷ rows) a = absurd a
  steps_decoded begun last (frame ∷ frames) [] a = absurd a
  steps_decoded begun last (frame ∷ frames) (row ∷ rows) a =
      let here = step_decoded begun last frame row a.0 in
      let rest = steps_decoded true row frames rows a.1 in
      ap (λ d. d ∷ map (λ (x : Frame). lifted_step f.scope.enumerations f.variables x.inputs) frames) here ∙ ap (λ ds. values_upto (now_values f lines row) (length f.variables) ∷ ds) rest

pub lifts_are_decoded_law : LiftsAreDecoded
lifts_are_decoded_law f lines lays w rows a = steps_decoded f lines (inputs_stated f lines lays) _ _ w.frames rows a

pub decoded_held : (f : PlainFlatSystem) (lines : List Line) → ∥ LaysOut f lines ∥₁ → (w : Witness) (rows : List (List BitVector)) → stated_frames lines w rows → lifted f w ≡ decoded_frames f lines rows
decoded_held f lines lays w rows a = steps_decoded f lines (inputs_held f lines lays) _ _ w.frames rows a

-- The bounds of a flat form's script are those of its model's script.
use Rattle.std.proofs.Common.{◌≡◌, ℕ, ◌+◌, ◌*◌, ◌≤◌, length, Result, Ok, Err, IfOk, sym, subst}
use Rattle.std.proofs.Math.Bridge.{le_prop}
use Rattle.std.proofs.Math.Logic.{∥∥₁_elim}
use Rattle.text_core.specs.declared.errors.NoMemory.{NoMemory}
use Rattle.moxi_scripts.specs.declared.script.Script.{Script}
use Rattle.moxi_scripts.specs.Script.{PlainScript, system_at, variables_in}
use Rattle.moxi_scripts.specs.ScriptView.{plain_script}
use Rattle.moxi_term_print.specs.Shown.{shown_depths}
use Rattle.moxi_script_print.specs.Printing.{shown_script}
use Rattle.moxi_flat.specs.Systems.{script_height, script_size}
use Rattle.smv_meaning.specs.Instances.{weight_of}
use Rattle.smv_flat.specs.FlatForms.{PlainFlat, flat_smv}
use Rattle.smv_flatten.specs.FlatModel.{FlatModel, IsOfModel, flat_plain}
use Rattle.smv_script.specs.Script.{script_of}
use Rattle.smv_script_laws.specs.BoundLaws.{SizesByWeight, CountsByWeight, HeightsAreLow, BracketsAreFew}
use Rattle.smv_to_moxi.specs.Bounds.{IsBounded}

-- what is known of the model's weight and script is known of the flat form's
of_model : (P : ℕ → PlainScript → Type 0) (f : FlatModel) (m : IsOfModel f) → ((width : ℕ) → P (weight_of m.source) (script_of (flat_smv m.source) width)) → P f.weight (script_of (flat_plain f) f.width)
of_model P f m h =
    subst (λ (n : ℕ). P n (script_of (flat_plain f) f.width)) (sym m.weight) (subst (λ (x : PlainFlat). P (weight_of m.source) (script_of x f.width)) (sym m.form) (h f.width))

bounded : SizesByWeight → CountsByWeight → HeightsAreLow → BracketsAreFew → (f : FlatModel) → ∥ IsOfModel f ∥₁ → IsBounded f.weight (script_of (flat_plain f) f.width)
bounded sizes counts heights brackets f t = record {
  size = ∥∥₁_elim t le_prop (λ (m : IsOfModel f). of_model (λ w s. script_size s ≤ 5 * w + 5) f m (sizes m.source m.read.end m.read.tokens m.read.spelled));
  counts = ∥∥₁_elim t le_prop (λ (m : IsOfModel f). of_model (λ w s. length (variables_in (system_at s.systems s.check.system)) + length s.check.queries ≤ w) f m (counts m.source m.read.end m.read.tokens m.read.spelled));
  height = ∥∥₁_elim t le_prop (λ (m : IsOfModel f). of_model (λ w s. script_height s ≤ 1146) f m (heights m.source m.read.end m.read.tokens m.read.spelled m.read.low));
  brackets = ∥∥₁_elim t le_prop (λ (m : IsOfModel f). of_model (λ w s. shown_depths (shown_script s) ≤ 1145) f m (brackets m.source m.read.end m.read.tokens m.read.spelled m.read.low));
}

pub made_bounded : SizesByWeight → CountsByWeight → HeightsAreLow → BracketsAreFew → (f : FlatModel) → ∥ IsOfModel f ∥₁ → (r : Result Script NoMemory) → IfOk r (λ s. plain_script s ≡ script_of (flat_plain f) f.width)
    → IfOk r (λ s. IsBounded f.weight (plain_script s))
made_bounded sizes counts heights brackets f t (Ok s) h = subst (λ (x : PlainScript). IsBounded f.weight x) (sym h) (bounded sizes counts heights brackets f t)
made_bounded sizes counts heights brackets f t (Err e) h = h

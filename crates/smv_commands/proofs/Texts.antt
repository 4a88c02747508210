-- The text of a flat form's lines is its model's.
use Rattle.std.proofs.Common.{◌≡◌, ℕ, ap, ◌∙◌}
use Rattle.smv_text.specs.Tree.{PlainSource}
use Rattle.smv_flat.specs.FlatForms.{PlainFlat, flat_smv}
use Rattle.smv_flat.specs.FlatWidth.{width_of}
use Rattle.smv_script.specs.Script.{script_for, script_of}
use Rattle.btor_tree.specs.Printing.{printed}
use Rattle.moxi_scripts.specs.Script.{PlainScript}
use Rattle.moxi_flat.specs.FlatSystem.{flat_of}
use Rattle.moxi_lines.specs.Lines.{lines_of}
use Rattle.smv_flatten.specs.FlatModel.{FlatModel, flat_plain, IsFormOf}
use Rattle.witness_lift.specs.Lifting.{lines_in}
use Rattle.smv_commands.specs.Translation.{btor_text}

-- the script of a model's flat form is the model's
made_script : (source : PlainSource) (flat : PlainFlat) (width : ℕ) → flat ≡ flat_smv source → width ≡ width_of (flat_smv source) → script_of flat width ≡ script_for source
made_script source flat width e w = ap (λ (f : PlainFlat). script_of f width) e ∙ ap (λ (n : ℕ). script_of (flat_smv source) n) w

made_text : (source : PlainSource) (flat : PlainFlat) (width : ℕ) → flat ≡ flat_smv source → width ≡ width_of (flat_smv source) → printed (lines_of (flat_of (script_of flat width))) ≡ btor_text source
unfolding btor_text
made_text source flat width e w = ap (λ (s : PlainScript). printed (lines_of (flat_of s))) (made_script source flat width e w)

pub form_text : (source : PlainSource) (f : FlatModel) → IsFormOf source f → printed (lines_in f) ≡ btor_text source
form_text source f form = made_text source (flat_plain f) f.width form.form form.width

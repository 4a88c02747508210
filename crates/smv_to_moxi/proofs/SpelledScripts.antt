-- Some forms spell the script of a flat form.
use Rattle.std.proofs.Common.{◌≡◌, ℕ, sym, ap, ◌∙◌, subst}
use Rattle.std.proofs.Math.Logic.{∥∥₁_map}
use Rattle.smv_flat.specs.FlatForms.{flat_smv}
use Rattle.smv_flatten.specs.FlatModel.{FlatModel, IsOfModel, flat_plain}
use Rattle.moxi_scripts.specs.Invariant.{IsSpelled}
use Rattle.moxi_scripts.specs.Script.{PlainScript}
use Rattle.smv_script.specs.Script.{script_of}
use Rattle.smv_script_laws.specs.ValidLaws.{ScriptsAreSpelled}
use Rattle.smv_flat.specs.declared.parts.FlatParts.{FlatParts}
use Rattle.smv_flat.specs.FlatForms.{PlainFlat}
use Rattle.smv_flat.specs.FlatParts.{parts_plain}
use Rattle.smv_to_moxi.specs.Assembling.{script_form}
use Rattle.smv_to_moxi.proofs.Scripts.{script_form_is}

pub parts_are : (f : FlatModel) (parts : FlatParts) (width : ℕ) → parts.items.now ≡ f.items → parts.symbols.now ≡ f.symbols → parts.formulas.now ≡ f.formulas → width ≡ f.width
    → script_form (parts_plain parts) width ≡ script_of (flat_plain f) f.width
parts_are f parts width i s o w =
    let form : parts_plain parts ≡ flat_plain f = cc in
    ap (λ (p : PlainFlat). script_form p width) form ∙ ap (script_form (flat_plain f)) w ∙ script_form_is (flat_plain f) f.width

of_model : ScriptsAreSpelled → (f : FlatModel) → IsOfModel f → IsSpelled (script_of (flat_plain f) f.width)
of_model law f m =
    subst (λ (s : PlainScript). IsSpelled s) (sym (ap (λ x. script_of x f.width) m.form ∙ ap (script_of (flat_smv m.source)) m.width))
    (law m.source m.read.end m.read.text m.read.tokens m.read.lexed m.read.spelled m.needed m.accepted)

pub model_spelled : ScriptsAreSpelled → (f : FlatModel) → ∥ IsOfModel f ∥₁ → ∥ IsSpelled (script_of (flat_plain f) f.width) ∥₁
model_spelled law f m = ∥∥₁_map m (of_model law f)

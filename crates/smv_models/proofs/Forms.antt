-- The flat form of the model that bytes spell, or their refusal.
use Rattle.std.proofs.Common.{◌≡◌, inl, inr, ℕ, List, Result, Ok, Err, sym, subst}
use Rattle.std.specs.Prelude.{IfOk, IfErr}
use Rattle.text_core.specs.declared.end.End.{End}
use Rattle.text_core.specs.declared.end.End.TheVariants.{Bad, NoMemory}
use Rattle.text_core.specs.Places.{start, after}
use Rattle.smv_text.specs.Tree.{PlainSource}
use Rattle.smv_meaning.specs.Instances.{weight_of}
use Rattle.smv_meaning.specs.Phases.{IsAccepted, checks_of}
use Rattle.smv_flat.specs.FlatForms.{flat_smv}
use Rattle.smv_flat.specs.FlatWidth.{width_of}
use Rattle.smv_flatten.specs.FlatModel.{FlatModel, HasForm, IsRead, flat_plain}
use Rattle.smv_flatten.specs.Refusing.{Decides}
use Rattle.smv_models.specs.Models.{IsFormIn, IsModel, IsModelEnd, IsTextEnd}

pub read_of : (bytes : List ℕ) (source : PlainSource) → IsModel bytes source → IsRead source
read_of bytes source m = record { text = bytes; tokens = m.tokens; end = after start bytes; lexed = m.lexed; spelled = m.spelled; low = m.low }

pub form_in : {E : Type 0} (bytes : List ℕ) (needed : ℕ) (source : PlainSource) (result : Result FlatModel E) → IsModel bytes source → IfOk result (λ f. IsAccepted source needed) → IfOk result (λ f. flat_plain f ≡ flat_smv source)
    → IfOk result (λ f. f.width ≡ width_of (flat_smv source)) → IfOk result (λ f. f.weight ≡ weight_of source) → IfOk result (IsFormIn bytes needed)
form_in bytes needed source (Ok f) is passes form width weight = record {
  source = source;
  accepted = record { is_model = is; accepted = passes };
  form = record { needed = needed; read = read_of bytes source is; accepted = passes; form = form; width = width };
  weight = weight;
}
form_in bytes needed source (Err e) is passes form width weight = tt

-- the first check that fails refuses the bytes
pub flat_ends : {T : Type 0} (bytes : List ℕ) (needed : ℕ) (source : PlainSource) (result : Result T End) → IsModel bytes source → Decides result (checks_of source needed) → IfErr result (IsModelEnd bytes needed)
flat_ends bytes needed source (Ok x) is h = tt
flat_ends bytes needed source (Err (Bad refusal)) is h = inr (source, is, h)
flat_ends bytes needed source (Err NoMemory) is h = tt

-- the refusal of the text refuses the bytes
pub text_ends : (bytes : List ℕ) (needed : ℕ) (end : End) → IsTextEnd bytes end → IsModelEnd bytes needed end
text_ends bytes needed (Bad refusal) h = inl h
text_ends bytes needed NoMemory h = tt

-- so does out of memory
pub memory_ends : {T : Type 0} (bytes : List ℕ) (needed : ℕ) (result : Result T End) → IfErr result (λ end. end ≡ NoMemory) → IfErr result (IsModelEnd bytes needed)
memory_ends bytes needed (Ok x) h = tt
memory_ends bytes needed (Err e) h = subst (IsModelEnd bytes needed) (sym h) tt

-- the flat form is that of some model
pub has_form : (bytes : List ℕ) (needed : ℕ) (f : FlatModel) → IsFormIn bytes needed f → HasForm f
has_form bytes needed f h = (h.source, h.form)

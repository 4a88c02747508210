-- The flat form of a model alone, without its sizes.
use Rattle.std.proofs.Common.{◌≡◌}
use Rattle.smv_text.specs.Tree.{PlainSource}
use Rattle.smv_flatten.specs.FlatModel.{FlatModel, HasForm, IsFlatOf, IsFormOf, flat_plain}

pub form_is_flat : (source : PlainSource) (f : FlatModel) → IsFormOf source f → IsFlatOf source (flat_plain f)
form_is_flat source f h = record { needed = h.needed; read = h.read; accepted = h.accepted; form = h.form }

pub has_flat : (f : FlatModel) → HasForm f → (source : PlainSource) × IsFlatOf source (flat_plain f)
has_flat f h = (h.0, form_is_flat h.0 f h.1)

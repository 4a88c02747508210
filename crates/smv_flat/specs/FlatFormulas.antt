-- What the code's formulas stand for.
use Rattle.smv_flat.specs.declared.forms.FlatFormula.{FlatFormula}
use Rattle.smv_flat.specs.FlatForms.{Form}
use Rattle.smv_flat.specs.FlatView.{plain_flat}

abbrev pub form_plain : FlatFormula → Form
form_plain f = record { instance = f.instance; role = f.role; body = plain_flat f.body }

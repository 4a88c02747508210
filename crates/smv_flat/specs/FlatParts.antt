-- The plain form of a flat form's parts.
use Rattle.std.specs.Prelude.{map}
use Rattle.smv_items.specs.FlatItemView.{item_plain}
use Rattle.smv_flat.specs.declared.parts.FlatParts.{FlatParts}
use Rattle.smv_flat.specs.FlatForms.{PlainFlat}
use Rattle.smv_flat.specs.FlatFormulas.{form_plain}

abbrev pub parts_plain : FlatParts → PlainFlat
parts_plain p = record { items = map item_plain p.items.now; symbols = p.symbols.now; forms = map form_plain p.formulas.now }

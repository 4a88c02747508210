-- The chains of a flat form's items and formulas.
use Rattle.std.specs.Prelude.{◌≡◌, ℕ, length, map, max}
use Rattle.smv_items.specs.FlatItemView.{item_plain}
use Rattle.smv_flat.specs.declared.parts.FlatParts.{FlatParts}
use Rattle.smv_flat.specs.FlatFormulas.{form_plain}
use Rattle.smv_script.specs.Script.{above_forms, above_items}
use Rattle.smv_script_terms.specs.declared.chains.Chains.{Chains}
use Rattle.smv_script_terms.specs.declared.formulas.FlatChains.{FlatChains}
use Rattle.smv_script_terms.specs.Chains.{AreChains}
use Rattle.smv_script_terms.specs.Parts.{body_number_of, form_number, item_number}

-- one more than the greatest number of an instance
abbrev pub instance_count : FlatParts → ℕ
instance_count s = max (above_items (map item_plain s.items.now)) (above_forms (map form_plain s.formulas.now))

-- the chains of the bodies of each item
abbrev pub AreBodyChains : FlatParts → Chains → Type 0
AreBodyChains s c = AreChains (map (body_number_of (length s.items.now)) s.formulas.now) (length s.items.now) c

-- the number of instances, the chains of what belongs to each, and those of the bodies of each item
pub record AreFlatChains (s : FlatParts) (c : FlatChains) : Type 0 where
  pub count : c.count ≡ instance_count s
  pub items : AreChains (map item_number s.items.now) (instance_count s) c.items
  pub formulas : AreChains (map form_number s.formulas.now) (instance_count s) c.formulas
  pub bodies : AreBodyChains s c.bodies

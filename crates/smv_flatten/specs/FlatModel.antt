-- A flat form with its sizes, and of which models there are flat forms.
use Rattle.std.specs.Prelude.{◌≡◌, ℕ, List, map, length, sum_by, None}
use Rattle.text_core.specs.declared.place.Place.{Place}
use Rattle.smv_text.specs.declared.token.Token.{Token}
use Rattle.smv_text.specs.Tree.{PlainSource}
use Rattle.smv_text.specs.Lexing.{Lexes}
use Rattle.smv_text.specs.Sources.{SpellsSource}
use Rattle.smv_text.specs.Heights.{first_high, of_modules}
use Rattle.smv_meaning.specs.Instances.{Instance, instances_of, weight_of}
use Rattle.smv_meaning.specs.Phases.{invariants_in, IsAccepted}
use Rattle.smv_items.specs.declared.items.FlatItem.{FlatItem}
use Rattle.smv_flat.specs.declared.forms.FlatFormula.{FlatFormula}
use Rattle.smv_flat.specs.FlatForms.{PlainFlat, flat_of, flat_smv}
use Rattle.smv_flat.specs.FlatFormulas.{form_plain}
use Rattle.smv_items.specs.FlatItemView.{item_plain}
use Rattle.smv_flat_laws.specs.FlatOrders.{IsItemOrder}
use Rattle.smv_flat.specs.FlatWidth.{width_of}

-- the items and formulas of the code; integers have as many bits as the width says, and the weight counts the tokens of the modules' bodies over all instances
pub record FlatModel : Type 0 where
  pub items : List FlatItem
  pub symbols : List (List ℕ)
  pub formulas : List FlatFormula
  pub width : ℕ
  pub weight : ℕ
  pub invariants : ℕ

-- the flat form alone
abbrev pub flat_plain : FlatModel → PlainFlat
flat_plain f = record { items = map item_plain f.items; symbols = f.symbols; forms = map form_plain f.formulas }

-- an order of the flat form's items in which each body is after the items that it reads
abbrev pub IsOrdered : FlatModel → List ℕ → Type 0
IsOrdered f order = IsItemOrder (flat_plain f) order

-- a text spells the model, and none of its expressions is too high (NuSMV 2.6 User Manual, 2.2 and 2.3; the limit is our own)
pub record IsRead (source : PlainSource) : Type 0 where
  pub text : List ℕ
  pub tokens : List Token
  pub end : Place
  pub lexed : Lexes text tokens
  pub spelled : SpellsSource source end tokens
  pub low : first_high (of_modules source.modules) ≡ None

-- the flat form of a model that a text spells and whose checks hold, with the model's width, weight and number of invariants
pub record IsOfModel (f : FlatModel) : Type 0 where
  pub source : PlainSource
  pub needed : ℕ
  pub read : IsRead source
  pub accepted : IsAccepted source needed
  pub form : flat_plain f ≡ flat_smv source
  pub width : f.width ≡ width_of (flat_smv source)
  pub weight : f.weight ≡ weight_of source
  pub invariants : f.invariants ≡ length (invariants_in (instances_of source))

-- the flat form of this model, which a text spells and whose checks hold, with the model's width
pub record IsFormOf (source : PlainSource) (f : FlatModel) : Type 0 where
  pub needed : ℕ
  pub read : IsRead source
  pub accepted : IsAccepted source needed
  pub form : flat_plain f ≡ flat_smv source
  pub width : f.width ≡ width_of (flat_smv source)

-- some model has this flat form
abbrev pub HasForm : FlatModel → Type 0
HasForm f = (source : PlainSource) × IsFormOf source f

-- the same of the flat form alone
pub record IsFlatOf (source : PlainSource) (flat : PlainFlat) : Type 0 where
  pub needed : ℕ
  pub read : IsRead source
  pub accepted : IsAccepted source needed
  pub form : flat ≡ flat_smv source

-- what these parts of the flat form of instances come to is of a model
abbrev pub AreOfModel : List Instance → Type 0
AreOfModel t = (f : FlatModel) → flat_plain f ≡ flat_of t → f.width ≡ width_of (flat_of t) → f.weight ≡ sum_by (λ at. at.module.tokens) t → f.invariants ≡ length (invariants_in t) → ∥ IsOfModel f ∥₁

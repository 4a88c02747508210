-- The formulas of a model over the numbers of its items: instances in preorder, in each first the bodies in the order of the items,
-- then assignments and sections in the order of the text.
use Rattle.std.specs.Prelude.{ℕ, ◌+◌, true, false, List, [], ◌∷◌, ◌++◌, map, length, flat_map}
use Rattle.smv_text.specs.Tree.{Tree, PlainAssignment, PlainElement, assigns, init, trans, invar, spec, PlainSource}
use Rattle.smv_meaning.specs.Instances.{Instance, instances_of}
use Rattle.smv_meaning.specs.Checks.{Position}
use Rattle.smv_meaning.specs.Naming.{in_body}
use Rattle.smv_meaning.specs.Phases.{in_state, in_step, in_assignment}
use Rattle.smv_meaning.specs.Settled.{types_in}
use Rattle.smv_flat.specs.declared.forms.Role.{Role}
use Rattle.smv_flat.specs.declared.forms.Role.TheVariants.{Body, Assign, Init, Trans, Invar, Invariant}
use Rattle.smv_items.specs.FlatItems.{Leaf, of_item, of_symbol, of_nothing, Content, variable, definition, actual, Origin, items_here, origins_of, symbols_of, leaf_in, PlainFlatItem, flat_item_of}
use Rattle.smv_flat.specs.FlatTree.{FlatTree, flat_tree}

-- a formula: the instance to which it belongs, what it is, and its flat form
pub record Form : Type 0 where
  pub instance : ℕ
  pub role : Role
  pub body : FlatTree

-- an expression in the numbered instance
abbrev pub flat_in : List Instance → ℕ → Position → Tree → FlatTree
flat_in t i at e = flat_tree (types_in true t i) (leaf_in t i) at false e

-- ---- bodies, given the number of their item

abbrev pub content_form : List Instance → ℕ → ℕ → Content → List Form
content_form t k i (variable kind d) = []
content_form t k i (definition j e) = record { instance = i; role = Body k; body = flat_in t j in_body e } ∷ []
content_form t k i (actual j e) = record { instance = i; role = Body k; body = flat_in t j in_body e } ∷ []

abbrev pub body_forms : List Instance → ℕ → List Origin → List Form
body_forms t k [] = []
body_forms t k (m ∷ ms) = content_form t k m.instance m.content ++ body_forms t (k + 1) ms

-- ---- the rest

abbrev pub number_or_first : Leaf → ℕ
number_or_first (of_item k) = k
number_or_first (of_symbol s) = 0
number_or_first of_nothing = 0

abbrev pub assignment_form : List Instance → ℕ → PlainAssignment → Form
assignment_form t i a = record {
  instance = i;
  role = Assign a.when (number_or_first (leaf_in t i a.target));
  body = flat_in t i (in_assignment a.when) a.body;
}

abbrev pub element_forms : List Instance → ℕ → PlainElement → List Form
element_forms t i (assigns xs) = map (assignment_form t i) xs
element_forms t i (init e) = record { instance = i; role = Init; body = flat_in t i in_state e } ∷ []
element_forms t i (trans e) = record { instance = i; role = Trans; body = flat_in t i in_step e } ∷ []
element_forms t i (invar e) = record { instance = i; role = Invar; body = flat_in t i in_state e } ∷ []
element_forms t i (spec label e) = record { instance = i; role = Invariant; body = flat_in t i in_state e } ∷ []
element_forms t i e = []

-- ---- all of them; k is the number of the first item of the instance of number i

abbrev pub forms_here : List Instance → ℕ → ℕ → Instance → List Form
forms_here t k i at = body_forms t k (items_here i at) ++ flat_map (element_forms t i) at.module.elements

abbrev pub forms_from : List Instance → ℕ → ℕ → List Instance → List Form
forms_from t k i [] = []
forms_from t k i (at ∷ rest) = forms_here t k i at ++ forms_from t (k + length (items_here i at)) (i + 1) rest

abbrev pub forms_of : List Instance → List Form
forms_of t = forms_from t 0 0 t

-- ---- the flat form of a model

pub record PlainFlat : Type 0 where
  pub items : List PlainFlatItem
  pub symbols : List (List ℕ)
  pub forms : List Form

abbrev pub flat_of : List Instance → PlainFlat
flat_of t = record { items = map (flat_item_of t) (origins_of t); symbols = symbols_of t; forms = forms_of t }

abbrev pub flat_smv : PlainSource → PlainFlat
flat_smv source = flat_of (instances_of source)

-- What the flat form says of rows of values, one for each item: nothing here knows of paths or instances.
use Rattle.std.specs.Prelude.{◌≡◌, ℕ, ◌+◌, Bool, true, false, not, ◌&&◌, ◌||◌, List, [], ◌∷◌, ◌++◌, Option, Some, None, slice_get}
use Rattle.std.specs.List.{list_all}
use Rattle.smv_text.specs.declared.tree.When.{When}
use Rattle.smv_text.specs.declared.tree.When.TheVariants.{Always, First, Following}
use Rattle.smv_meaning.specs.declared.value.Value.{Value}
use Rattle.smv_meaning.specs.declared.value.Value.TheVariants.{Symbol}
use Rattle.smv_meaning.specs.Values.{Valuation, no_value, is_true, value_same}
use Rattle.smv_meaning.specs.Expressions.{Denotation}
use Rattle.smv_meaning.specs.Phases.{when_same}
use Rattle.smv_items.specs.declared.items.ItemKind.{ItemKind}
use Rattle.smv_items.specs.declared.items.ItemKind.TheVariants.{State, Frozen, Input, Define, Actual}
use Rattle.smv_flat.specs.declared.forms.Role.{Role}
use Rattle.smv_flat.specs.declared.forms.Role.TheVariants.{Body, Assign, Init, Trans, Invar, Invariant}
use Rattle.smv_flat.specs.FlatTree.{FlatTree, flat_denote}
use Rattle.smv_items.specs.FlatItems.{PlainFlatItem}
use Rattle.smv_flat.specs.FlatForms.{Form, PlainFlat}

-- the values of items, by their numbers
abbrev pub Row : Type 0
Row = ℕ → Value

abbrev pub symbol_or_none : Option (List ℕ) → Value
symbol_or_none None = no_value
symbol_or_none (Some s) = Symbol s

abbrev pub symbol_value : List (List ℕ) → ℕ → Value
symbol_value symbols s = symbol_or_none (slice_get symbols s)

-- a formula in a row, with the following row
abbrev pub form_denotes : PlainFlat → Row → Row → FlatTree → Denotation
form_denotes flat now later e = flat_denote (symbol_value flat.symbols) now later e

-- ---- rows of a state and a label

-- a variable has its value in the state, or as an input in the label
abbrev pub GivesKind : Valuation → Valuation → List ℕ → Value → ItemKind → Type 0
GivesKind state label x v State = v ≡ state x
GivesKind state label x v Frozen = v ≡ state x
GivesKind state label x v Input = v ≡ label x
GivesKind state label x v Define = Unit {0}
GivesKind state label x v Actual = Unit {0}

abbrev pub GivesItem : Valuation → Valuation → Value → Option PlainFlatItem → Type 0
GivesItem state label v None = Unit {0}
GivesItem state label v (Some m) = GivesKind state label m.name v m.kind

-- a definition or an actual has the value of its body in the row itself
abbrev pub MeetsRole : Row → Value → Role → Type 0
MeetsRole row v (Body k) = row k ≡ v
MeetsRole row v r = Unit {0}

abbrev pub MeetsForms : PlainFlat → Row → List Form → Type 0
MeetsForms flat row [] = Unit {0}
MeetsForms flat row (f ∷ fs) = MeetsRole row (form_denotes flat row row f.body).value f.role × MeetsForms flat row fs

pub record IsRow (flat : PlainFlat) (state label : Valuation) (row : Row) : Type 0 where
  pub variables : (k : ℕ) → GivesItem state label (row k) (slice_get flat.items k)
  pub bodies : MeetsForms flat row flat.forms

-- ---- truth

-- in the first state INIT and `init(x) :=`, always INVAR and `x :=`, and of each transition TRANS and `next(x) :=`
abbrev pub role_holds : When → Row → Role → Denotation → Bool
role_holds when target (Body k) d = true
role_holds when target (Assign w k) d = not (when_same w when) || d.permits (target k)
role_holds First target Init d = is_true d.value
role_holds Following target Trans d = is_true d.value
role_holds Always target Invar d = is_true d.value
role_holds when target r d = true

abbrev pub forms_hold : PlainFlat → When → Row → Row → Row → List Form → Bool
forms_hold flat when target now later fs = list_all (λ f. role_holds when target f.role (form_denotes flat now later f.body)) fs

abbrev pub flat_init : PlainFlat → Row → Row → Bool
flat_init flat now later = forms_hold flat First now now later flat.forms

abbrev pub flat_invar : PlainFlat → Row → Row → Bool
flat_invar flat now later = forms_hold flat Always now now later flat.forms

abbrev pub flat_trans : PlainFlat → Row → Row → Bool
flat_trans flat now later = forms_hold flat Following later now later flat.forms

-- each frozen variable keeps its value
abbrev pub kind_stays : Value → Value → ItemKind → Bool
kind_stays v w Frozen = value_same v w
kind_stays v w kind = true

abbrev pub items_stay : Row → Row → ℕ → List PlainFlatItem → Bool
items_stay now later k [] = true
items_stay now later k (m ∷ ms) = kind_stays (now k) (later k) m.kind && items_stay now later (k + 1) ms

abbrev pub flat_stay : PlainFlat → Row → Row → Bool
flat_stay flat now later = items_stay now later 0 flat.items

-- the invariants in their order
abbrev pub role_invariant : Role → FlatTree → List FlatTree
role_invariant Invariant e = e ∷ []
role_invariant r e = []

abbrev pub forms_invariants : List Form → List FlatTree
forms_invariants [] = []
forms_invariants (f ∷ fs) = role_invariant f.role f.body ++ forms_invariants fs

abbrev pub is_false_in : PlainFlat → Row → Row → Option FlatTree → Bool
is_false_in flat now later None = false
is_false_in flat now later (Some e) = not (is_true (form_denotes flat now later e).value)

-- the invariant of number j is false
abbrev pub flat_broken : PlainFlat → ℕ → Row → Row → Bool
flat_broken flat j now later = is_false_in flat now later (slice_get (forms_invariants flat.forms) j)

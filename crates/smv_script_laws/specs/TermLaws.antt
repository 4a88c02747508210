-- The law of values: in the environments of the rows of two states, the term of each typed expression has the datum of its value, and a
-- membership is what the expression permits. The codes of a type's values tell them apart.
use Rattle.std.specs.Prelude.{◌≡◌, ℕ, ◌<◌, ◌≤◌, true, List, length, Some, slice_get, IsTrue}
use Rattle.word_core.specs.Words.{IsWord}
use Rattle.smv_text.specs.Tree.{Tree}
use Rattle.smv_meaning.specs.declared.value.Value.{Value}
use Rattle.smv_meaning.specs.Values.{Valuation}
use Rattle.smv_meaning.specs.Instances.{Instance}
use Rattle.smv_meaning.specs.Types.{ExprType, truth_type, integer_type, symbol_type, word_type}
use Rattle.smv_meaning.specs.Checks.{Position, typing}
use Rattle.smv_meaning.specs.Runs.{state_fits, label_fits}
use Rattle.smv_meaning.specs.Settled.{Acyclic, types_in}
use Rattle.smv_items.specs.FlatItems.{symbols_of}
use Rattle.smv_flat.specs.FlatForms.{flat_in, flat_of}
use Rattle.smv_flat.specs.FlatTruth.{Row, IsRow, form_denotes}
use Rattle.smv_width.specs.SourceWidth.{expression_width, has_operators}
use Rattle.name_maps.specs.Names.{place_of}
use Rattle.moxi_terms.specs.declared.data.Datum.{Datum}
use Rattle.moxi_terms.specs.declared.data.Datum.TheVariants as datum
use Rattle.moxi_terms.specs.Value.{Calls, Values}
use Rattle.smv_script.specs.Codes.{datum_of, value_of}
use Rattle.smv_script.specs.Terms.{Coding, translation}
use Rattle.smv_script_laws.specs.Kinds.{IsKnown, IsOfKind}
use Rattle.smv_script_laws.specs.Meanings.{Says}

-- The row is that of a state and a label of the declared types, its symbols are the model's, and the environment gives the variable of
-- each item the datum of the item's value.
pub record HasRow (t : List Instance) (c : Coding) (state label : Valuation) (row : Row) (env : Values) : Type 0 where
  pub of_state : IsTrue (state_fits t state)
  pub of_label : IsTrue (label_fits t label)
  pub is_row : IsRow (flat_of t) state label row
  pub known : (k : ℕ) → k < length (flat_of t).items → IsKnown (symbols_of t) (row k)
  pub coded : (k : ℕ) → k < length (flat_of t).items → env (c.place k) ≡ datum_of c.width (symbols_of t) (row k)

-- The width holds the interval of each integer of the expression and of its parts, also of branches that aren't taken. What later calls
-- of functions and later labels give doesn't matter.
abbrev pub TermsHaveValues : Type 0
TermsHaveValues = (t : List Instance) → Acyclic t → (c : Coding) → 1 ≤ c.width → (state label following other : Valuation) (now later : Row) (calls : Calls) (first second : Values)
    → HasRow t c state label now first → HasRow t c following other later second
    → (i : ℕ) (at : Position) (e : Tree) → has_operators e ≡ true → expression_width (types_in true t i) at e ≤ c.width → (u : ExprType) → (typing (types_in true t i) at e).type ≡ Some u
    → Says c.width (symbols_of t) calls first second u (form_denotes (flat_of t) now later (flat_in t i at e)) at.sets (translation c (flat_in t i at e))

-- a datum of the type's sort
abbrev pub IsDatum : ℕ → List (List ℕ) → ExprType → Datum → Type 0
IsDatum width symbols truth_type (datum.Truth b) = Unit {0}
IsDatum width symbols (integer_type low high) (datum.Bits w) = (w.width ≡ width) × IsWord w
IsDatum width symbols symbol_type (datum.Constant n i) = (n ≡ 0) × (i < length symbols)
IsDatum width symbols (word_type n) (datum.Bits w) = (w.width ≡ n) × IsWord w
IsDatum width symbols t d = ⊥

-- each symbol stands once
abbrev pub AreDistinct : List (List ℕ) → Type 0
AreDistinct symbols = (i : ℕ) (s : List ℕ) → slice_get symbols i ≡ Some s → place_of symbols s ≡ Some i

-- a value of the type's kind comes back from its datum
abbrev pub ValuesRoundTrip : Type 0
ValuesRoundTrip = (width : ℕ) (symbols : List (List ℕ)) → 1 ≤ width → (t : ExprType) (v : Value) → IsOfKind width symbols t v → value_of symbols t (datum_of width symbols v) ≡ v

-- a datum of the type's sort comes back from its value
abbrev pub DataRoundTrip : Type 0
DataRoundTrip = (width : ℕ) (symbols : List (List ℕ)) → 1 ≤ width → AreDistinct symbols → (t : ExprType) (d : Datum) → IsDatum width symbols t d → datum_of width symbols (value_of symbols t d) ≡ d

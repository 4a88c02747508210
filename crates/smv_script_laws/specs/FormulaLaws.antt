-- A script's formulas in the environments of the rows of two states say what the flat form says of the rows.
use Rattle.std.specs.Prelude.{◌↔◌, ◌≡◌, ℕ, ◌≤◌, true, List}
use Rattle.text_core.specs.declared.place.Place.{Place}
use Rattle.smv_text.specs.declared.token.Token.{Token}
use Rattle.smv_text.specs.declared.tree.When.{When}
use Rattle.smv_text.specs.declared.tree.When.TheVariants.{Always, First, Following}
use Rattle.smv_text.specs.Lexing.{Lexes}
use Rattle.smv_text.specs.Sources.{SpellsSource}
use Rattle.smv_text.specs.Tree.{PlainSource}
use Rattle.smv_meaning.specs.Instances.{instances_of}
use Rattle.smv_meaning.specs.Phases.{IsAccepted}
use Rattle.smv_meaning.specs.Values.{Valuation}
use Rattle.smv_flat.specs.FlatForms.{PlainFlat, flat_smv}
use Rattle.smv_flat.specs.FlatTruth.{Row, flat_init, flat_invar, flat_trans, flat_stay, flat_broken, forms_invariants}
use Rattle.smv_flat.specs.FlatWidth.{width_of}
use Rattle.moxi_terms.specs.Value.{Calls, Values}
use Rattle.moxi_scripts.specs.Script.{formula_at}
use Rattle.moxi_scripts.specs.Behaviour.{Holds}
use Rattle.smv_script.specs.Terms.{Coding}
use Rattle.smv_script.specs.Script.{formula_of, reachables_from}
use Rattle.smv_script_laws.specs.TermLaws.{HasRow}
use Rattle.smv_script_laws.specs.Parts.{ItemsHold, FormsHold, PartsHold}

-- a formula is the conjunction of all parts, whatever the flat form and the codes are
abbrev pub FormulaSplits : Type 0
FormulaSplits = (flat : PlainFlat) (c : Coding) (when : When) (calls : Calls) (now later : Values)
    → Holds calls now later (formula_of flat c when) ↔ PartsHold flat c when calls now later

-- the parts of the flat form's formulas hold in two environments exactly where the flat form holds in the rows, and a reachable formula
-- exactly where its invariant is broken
pub record FormsMean (flat : PlainFlat) (c : Coding) (now later : Row) (calls : Calls) (first second : Values) : Type 0 where
  pub init : FormsHold flat c First calls first second ↔ (flat_init flat now later ≡ true)
  pub invar : FormsHold flat c Always calls first second ↔ (flat_invar flat now later ≡ true)
  pub trans : FormsHold flat c Following calls first second ↔ (flat_trans flat now later ≡ true)
  pub broken : (j : ℕ) → Holds calls first second (formula_at (reachables_from c 0 (forms_invariants flat.forms)) j) ↔ (flat_broken flat j now later ≡ true)

-- in the environments of the rows of two states, for any codes of that width or a greater one
abbrev pub FormsSay : Type 0
FormsSay = (source : PlainSource) (end : Place) (text : List ℕ) (xs : List Token) → Lexes text xs → SpellsSource source end xs → (needed : ℕ) → IsAccepted source needed
    → (c : Coding) → width_of (flat_smv source) ≤ c.width → (state label following other : Valuation) (now later : Row) (calls : Calls) (first second : Values)
    → HasRow (instances_of source) c state label now first → HasRow (instances_of source) c following other later second
    → FormsMean (flat_smv source) c now later calls first second

-- the parts of items hold of each state, and of a transition exactly where frozen variables keep their values
pub record ItemsMean (flat : PlainFlat) (c : Coding) (now later : Row) (calls : Calls) (first second : Values) : Type 0 where
  pub init : ItemsHold flat c First calls first second
  pub invar : ItemsHold flat c Always calls first first
  pub trans : ItemsHold flat c Following calls first second ↔ (flat_stay flat now later ≡ true)

abbrev pub ItemsSay : Type 0
ItemsSay = (source : PlainSource) (end : Place) (text : List ℕ) (xs : List Token) → Lexes text xs → SpellsSource source end xs → (needed : ℕ) → IsAccepted source needed
    → (c : Coding) → width_of (flat_smv source) ≤ c.width → (state label following other : Valuation) (now later : Row) (calls : Calls) (first second : Values)
    → HasRow (instances_of source) c state label now first → HasRow (instances_of source) c following other later second
    → ItemsMean (flat_smv source) c now later calls first second

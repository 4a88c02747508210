-- The named formulas of a check: `(a t)` behind `:assumption`, `:current` or `:reachable`. Their names are one kind.
use Rattle.std.specs.Prelude.{ℕ, Bool, true, false, ◌||◌, is_some, if◌then◌else◌, Option, None, Some, List, [], ◌∷◌, ◌++◌}
use Rattle.text_core.specs.declared.place.Refusal.{Refusal}
use Rattle.moxi_sexpr.specs.Tree as form
use Rattle.moxi_terms.specs.declared.data.Primes.TheVariants.{Refused}
use Rattle.moxi_term_reading.specs.declared.locals.Local.{Local}
use Rattle.moxi_term_reading.specs.Forms.{place_in}
use Rattle.name_maps.specs.Names.{place_of}
use Rattle.moxi_term_reading.specs.Reading.{prime_failures}
use Rattle.moxi_terms.specs.View.{ScopeState}
use Rattle.moxi_scripts.specs.declared.parts.Command.TheVariants.{Check}
use Rattle.moxi_scripts.specs.declared.parts.Key.{Key}
use Rattle.moxi_scripts.specs.declared.parts.Key.TheVariants.{Assumption, Current, Reachable}
use Rattle.moxi_scripts.specs.declared.parts.Turn.{Turn}
use Rattle.moxi_scripts.specs.declared.parts.Turn.TheVariants.{AtKeyword, Behind, Passing}
use Rattle.moxi_scripts.specs.Attributes.{turn_after}
use Rattle.moxi_scripts.specs.Collecting.{fails_if}
use Rattle.moxi_scripts.specs.Formulas.{term_failures, term_of}
use Rattle.moxi_scripts.specs.Script.{PlainFormula}
use Rattle.moxi_scripts.specs.Shapes.{NamedForm, misshapen, named}

-- formulas of one kind, and their names
pub record FormulaList : Type 0 where
  pub names : List (List ℕ)
  pub formulas : List PlainFormula

-- whole: each of them has its shape
pub record FormulaLists : Type 0 where
  pub assumptions : FormulaList
  pub currents : FormulaList
  pub reachables : FormulaList
  pub whole : Bool

abbrev pub has_name : FormulaList → List ℕ → Bool
has_name l name = is_some (place_of l.names name)

abbrev pub is_label : FormulaLists → List ℕ → Bool
is_label ls name = has_name ls.assumptions name || (has_name ls.currents name || has_name ls.reachables name)

abbrev pub with_one : FormulaList → PlainFormula → FormulaList
with_one l f = record { names = l.names ++ f.name ∷ []; formulas = l.formulas ++ f ∷ [] }

abbrev pub with_formula : Key → FormulaLists → PlainFormula → FormulaLists
with_formula Assumption ls f = record ls { assumptions = with_one ls.assumptions f }
with_formula Current ls f = record ls { currents = with_one ls.currents f }
with_formula Reachable ls f = record ls { reachables = with_one ls.reachables f }
with_formula k ls f = ls

abbrev pub is_formula_key : Key → Bool
is_formula_key Assumption = true
is_formula_key Current = true
is_formula_key Reachable = true
is_formula_key k = false

abbrev pub with_named : ScopeState → List Local → Key → FormulaLists → Option NamedForm → FormulaLists
with_named s locals k ls None = record ls { whole = false }
with_named s locals k ls (Some n) = if is_label ls n.name then ls else with_formula k ls (record { name = n.name; term = term_of s locals Refused n.form })

abbrev pub named_tests : ScopeState → List Local → FormulaLists → form.Tree → Option NamedForm → List Refusal
named_tests s locals ls t None = misshapen (place_in t) t ∷ []
named_tests s locals ls t (Some n) = (prime_failures n.primed n.place ++ fails_if (is_label ls n.name) 9 n.place) ++ term_failures s locals Refused n.form

abbrev pub labels_with : ScopeState → List Local → Turn → FormulaLists → form.Tree → FormulaLists
labels_with s locals AtKeyword ls t = ls
labels_with s locals (Behind k) ls t = if is_formula_key k then with_named s locals k ls (named t) else ls
labels_with s locals Passing ls t = ls

abbrev pub label_tests : ScopeState → List Local → Turn → FormulaLists → form.Tree → List Refusal
label_tests s locals AtKeyword ls t = []
label_tests s locals (Behind k) ls t = if is_formula_key k then named_tests s locals ls t (named t) else []
label_tests s locals Passing ls t = []

-- the formulas among the attributes of a check
abbrev pub labels_after : ScopeState → List Local → FormulaLists → Turn → form.Trees → FormulaLists
labels_after s locals ls turn form.no_trees = ls
labels_after s locals ls turn (form.tree t ts) = labels_after s locals (labels_with s locals turn ls t) (turn_after Check turn t) ts

abbrev pub labels_failures : ScopeState → List Local → FormulaLists → Turn → form.Trees → List Refusal
labels_failures s locals ls turn form.no_trees = []
labels_failures s locals ls turn (form.tree t ts) = label_tests s locals turn ls t ++ labels_failures s locals (labels_with s locals turn ls t) (turn_after Check turn t) ts

abbrev pub no_list : FormulaList
no_list = record { names = []; formulas = [] }

abbrev pub no_labels : FormulaLists
no_labels = record { assumptions = no_list; currents = no_list; reachables = no_list; whole = true }

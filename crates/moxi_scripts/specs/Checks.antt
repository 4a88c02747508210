-- The check of a script as it is read.
use Rattle.std.specs.Prelude.{ℕ, if◌then◌else◌, Option, None, Some, List, [], ◌∷◌, ◌++◌}
use Rattle.text_core.specs.declared.place.Place.{Place}
use Rattle.text_core.specs.declared.place.Refusal.{Refusal}
use Rattle.moxi_sexpr.specs.Lexing.{refusal}
use Rattle.moxi_sexpr.specs.Tree.{Tree, Trees}
use Rattle.moxi_term_reading.specs.Forms.{place_in}
use Rattle.moxi_term_reading.specs.declared.locals.Local.{Local}
use Rattle.moxi_term_reading.specs.Reading.{prime_failures}
use Rattle.moxi_terms.specs.View.{ScopeState}
use Rattle.moxi_scripts.specs.declared.parts.Command.TheVariants.{Check}
use Rattle.moxi_scripts.specs.declared.parts.Key.TheVariants as keys
use Rattle.moxi_scripts.specs.declared.parts.Turn.TheVariants.{AtKeyword}
use Rattle.moxi_scripts.specs.declared.parts.ListPlaces.{ListPlaces}
use Rattle.moxi_scripts.specs.declared.parts.Declared.{Declared}
use Rattle.moxi_scripts.specs.declared.parts.Lists.{Lists}
use Rattle.moxi_scripts.specs.declared.script.Query.{Query}
use Rattle.moxi_scripts.specs.Attributes.{shape_holds}
use Rattle.moxi_scripts.specs.Labels.{FormulaLists, labels_after, labels_failures, no_labels}
use Rattle.moxi_scripts.specs.Lists.{all_entries, lists_in, value_at}
use Rattle.moxi_scripts.specs.QueryReading.{all_queries_failures, queries_after}
use Rattle.moxi_scripts.specs.Shapes.{HeadedForms, headed}
use Rattle.moxi_scripts.specs.Systems.{locals_of, variables_failures}

-- a check whose system isn't yet found
pub record CheckReading : Type 0 where
  pub place : Place
  pub target : List ℕ
  pub target_place : Place
  pub lists : Lists
  pub places : ListPlaces
  pub labels : FormulaLists
  pub queries : List Query

-- the place of a list, or of the check where it is missing
abbrev pub place_or : Place → Option Tree → Place
place_or p None = p
place_or p (Some t) = place_in t

abbrev pub places_in : Place → Trees → ListPlaces
places_in p ts = record { inputs = place_or p (value_at Check keys.Input ts); outputs = place_or p (value_at Check keys.Output ts); locals = place_or p (value_at Check keys.Local ts) }

-- the formulas of a check over these variables, and their tests
abbrev pub labels_over : ScopeState → List Local → Trees → FormulaLists
labels_over s locals ts = labels_after s locals no_labels AtKeyword ts

abbrev pub label_failures_over : ScopeState → List Local → Trees → List Refusal
label_failures_over s locals ts = labels_failures s locals no_labels AtKeyword ts

-- the tests of the queries of a check with these formulas
abbrev pub query_failures_over : FormulaLists → Trees → List Refusal
query_failures_over ls ts = all_queries_failures ls [] AtKeyword ts

abbrev pub labels_in : ScopeState → Trees → FormulaLists
labels_in s ts = labels_over s (locals_of s Check ts) ts

abbrev pub content_of : ScopeState → Place → HeadedForms → CheckReading
content_of s p h =
    record {
      place = p;
      target = h.name;
      target_place = h.place;
      lists = lists_in s Check h.rest;
      places = places_in p h.rest;
      labels = labels_in s h.rest;
      queries = queries_after (labels_in s h.rest) AtKeyword h.rest;
    }

abbrev pub content_failures : ScopeState → Trees → List Refusal
content_failures s ts = (variables_failures s Check ts ++ label_failures_over s (locals_of s Check ts) ts) ++ query_failures_over (labels_in s ts) ts

abbrev pub check_in : ScopeState → Place → Option HeadedForms → Option CheckReading
check_in s p None = None
check_in s p (Some h) = if shape_holds Check h.rest then Some (content_of s p h) else None

-- the check that `(check-system S ..)` at p spells
abbrev pub check_of : ScopeState → Place → Trees → Option CheckReading
check_of s p ts = check_in s p (headed ts)

abbrev pub headed_failures : ScopeState → Place → Option HeadedForms → List Refusal
headed_failures s p None = refusal 12 p ∷ []
headed_failures s p (Some h) = if shape_holds Check h.rest then prime_failures h.primed h.place ++ content_failures s h.rest else refusal 12 p ∷ []

abbrev pub check_failures : ScopeState → Place → Trees → List Refusal
check_failures s p ts = headed_failures s p (headed ts)

abbrev pub variables_in : ScopeState → Option HeadedForms → List Declared
variables_in s None = []
variables_in s (Some h) = if shape_holds Check h.rest then all_entries (lists_in s Check h.rest) else []

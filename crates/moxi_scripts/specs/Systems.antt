-- Systems as they are read: `S :input .. :output .. :local .. :init .. :trans .. :inv .. :subsys ..`.
use Rattle.std.specs.Prelude.{ℕ, Bool, false, not, is_none, if◌then◌else◌, Option, None, Some, List, [], ◌∷◌, ◌++◌}
use Rattle.text_core.specs.declared.place.Place.{Place}
use Rattle.text_core.specs.declared.place.Refusal.{Refusal}
use Rattle.moxi_sexpr.specs.Lexing.{refusal}
use Rattle.moxi_sexpr.specs.Tree.{Trees}
use Rattle.moxi_terms.specs.declared.data.Primes.TheVariants.{Allowed, Refused}
use Rattle.moxi_term_reading.specs.declared.locals.Local.{Local}
use Rattle.name_maps.specs.Names.{place_of}
use Rattle.moxi_term_reading.specs.Reading.{prime_failures}
use Rattle.moxi_terms.specs.Tree.{Tree}
use Rattle.moxi_terms.specs.View.{ScopeState}
use Rattle.moxi_scripts.specs.declared.parts.Command.{Command}
use Rattle.moxi_scripts.specs.declared.parts.Command.TheVariants.{System}
use Rattle.moxi_scripts.specs.declared.parts.Key.TheVariants.{Init, Trans, Inv}
use Rattle.moxi_scripts.specs.declared.parts.Turn.TheVariants.{AtKeyword}
use Rattle.moxi_scripts.specs.declared.parts.Declared.{Declared}
use Rattle.moxi_scripts.specs.declared.parts.DeclaredList.{DeclaredList}
use Rattle.moxi_scripts.specs.declared.parts.Lists.{Lists}
use Rattle.moxi_scripts.specs.declared.parts.Use.{Use}
use Rattle.moxi_scripts.specs.Attributes.{shape_holds, unknown_failures}
use Rattle.moxi_scripts.specs.Collecting.{fails_if}
use Rattle.moxi_scripts.specs.Entries.{locals_among, locals_found, names_with, twice_failures}
use Rattle.moxi_scripts.specs.Formulas.{formula_failures, formula_term, true_term}
use Rattle.moxi_scripts.specs.Lists.{all_entries, are_shaped, lists_failures, lists_in, possible_entries, text_entries, value_at}
use Rattle.moxi_scripts.specs.Shapes.{HeadedForms, headed}
use Rattle.moxi_scripts.specs.Uses.{uses_failures, uses_in}

-- a system whose subsystems aren't yet found
pub record SystemReading : Type 0 where
  pub name : List ℕ
  pub lists : Lists
  pub init : Tree
  pub trans : Tree
  pub inv : Tree
  pub uses : List Use

abbrev pub text_entries_in : ScopeState → Command → Trees → List Declared
text_entries_in s command ts = text_entries (lists_in s command ts) command AtKeyword ts

abbrev pub possible_in : ScopeState → Command → Trees → List Declared
possible_in s command ts = possible_entries s (are_shaped (lists_in s command ts)) ts

-- the variables among which names are found
abbrev pub locals_of : ScopeState → Command → Trees → List Local
locals_of s command ts =
    locals_found (locals_among (text_entries_in s command ts ++ possible_in s command ts)) (all_entries (lists_in s command ts) ++ possible_in s command ts)

-- the tests of keywords and of the lists; names are compared in the order of the text
abbrev pub variables_failures : ScopeState → Command → Trees → List Refusal
variables_failures s command ts = (unknown_failures command AtKeyword ts ++ lists_failures s command ts) ++ twice_failures [] (text_entries_in s command ts)

abbrev pub formulas_failures : ScopeState → List Local → Trees → List Refusal
formulas_failures s locals ts =
    (formula_failures s locals Refused (value_at System Init ts) ++ formula_failures s locals Allowed (value_at System Trans ts)) ++ formula_failures s locals Refused (value_at System Inv ts)

-- a system of which the attributes have their shape; only its transitions may have primes
abbrev pub content_of : ScopeState → List ℕ → Trees → SystemReading
content_of s name ts =
    record {
      name = name;
      lists = lists_in s System ts;
      init = formula_term s (locals_of s System ts) Refused (value_at System Init ts);
      trans = formula_term s (locals_of s System ts) Allowed (value_at System Trans ts);
      inv = formula_term s (locals_of s System ts) Refused (value_at System Inv ts);
      uses = uses_in (locals_of s System ts) AtKeyword ts;
    }

abbrev pub formula_failures_in : ScopeState → Trees → List Refusal
formula_failures_in s ts = formulas_failures s (locals_of s System ts) ts

abbrev pub use_failures_in : ScopeState → Trees → List Refusal
use_failures_in s ts = uses_failures (locals_of s System ts) [] AtKeyword ts

abbrev pub content_failures : ScopeState → Trees → List Refusal
content_failures s ts = (variables_failures s System ts ++ formula_failures_in s ts) ++ use_failures_in s ts

abbrev pub no_list : DeclaredList
no_list = record { entries = []; shaped = false; whole = false }

abbrev pub no_lists : Lists
no_lists = record { inputs = no_list; outputs = no_list; locals = no_list }

-- a system with a name but without its shape
abbrev pub bare_system : List ℕ → SystemReading
bare_system name = record { name = name; lists = no_lists; init = true_term; trans = true_term; inv = true_term; uses = [] }

abbrev pub shaped_system : ScopeState → List ℕ → Trees → SystemReading
shaped_system s name ts = if shape_holds System ts then content_of s name ts else bare_system name

abbrev pub shaped_failures : ScopeState → Place → Trees → List Refusal
shaped_failures s p ts = if shape_holds System ts then content_failures s ts else refusal 12 p ∷ []

-- a system that is added to these, unless its name is taken
abbrev pub with_new_system : Bool → List SystemReading → SystemReading → List SystemReading
with_new_system new rs r = if new then rs ++ r ∷ [] else rs

-- a system whose name is taken, behind these
abbrev pub with_repeated_system : Bool → List SystemReading → SystemReading → List SystemReading
with_repeated_system new rs r = if new then rs else rs ++ r ∷ []

-- of two with one name the second fails; it is read like any other
abbrev pub system_tests : ScopeState → List (List ℕ) → Place → HeadedForms → List Refusal
system_tests s names p h = (prime_failures h.primed h.place ++ fails_if (not (is_none (place_of names h.name))) 9 h.place) ++ shaped_failures s p h.rest

abbrev pub shaped_variables : ScopeState → Trees → List Declared
shaped_variables s ts = if shape_holds System ts then all_entries (lists_in s System ts) else []

-- the systems, and the one that `(define-system S ..)` declares behind those of these names
abbrev pub with_system : ScopeState → List (List ℕ) → List SystemReading → Option HeadedForms → List SystemReading
with_system s names rs None = rs
with_system s names rs (Some h) = with_new_system (is_none (place_of names h.name)) rs (shaped_system s h.name h.rest)

-- the systems whose names are taken, and this one, where its name is
abbrev pub with_repeated : ScopeState → List (List ℕ) → List SystemReading → Option HeadedForms → List SystemReading
with_repeated s names rs None = rs
with_repeated s names rs (Some h) = with_repeated_system (is_none (place_of names h.name)) rs (shaped_system s h.name h.rest)

abbrev pub headed_system_failures : ScopeState → List (List ℕ) → Place → Option HeadedForms → List Refusal
headed_system_failures s names p None = refusal 12 p ∷ []
headed_system_failures s names p (Some h) = system_tests s names p h

abbrev pub system_failures : ScopeState → List (List ℕ) → Place → Trees → List Refusal
system_failures s names p ts = headed_system_failures s names p (headed ts)

abbrev pub names_with_system : List (List ℕ) → Option HeadedForms → List (List ℕ)
names_with_system names None = names
names_with_system names (Some h) = names_with names h.name

abbrev pub variables_of_system : ScopeState → Option HeadedForms → List Declared
variables_of_system s None = []
variables_of_system s (Some h) = shaped_variables s h.rest

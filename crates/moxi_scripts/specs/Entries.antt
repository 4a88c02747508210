-- Lists of variables, `((x S) ..)`: what they declare, and the tests that fail.
use Rattle.std.specs.Prelude.{ℕ, Bool, true, ◌&&◌, not, is_none, is_some, Option, None, Some, Result, Ok, Err, List, [], ◌∷◌, ◌++◌, if◌then◌else◌, map}
use Rattle.text_core.specs.declared.place.Place.{Place}
use Rattle.text_core.specs.declared.place.Refusal.{Refusal}
use Rattle.moxi_sexpr.specs.Tree.{Tree, Trees, no_trees, tree}
use Rattle.moxi_terms.specs.declared.data.Sort.{Sort}
use Rattle.moxi_term_reading.specs.declared.locals.Local.{Local}
use Rattle.moxi_terms.specs.declared.term.Variable.{Variable}
use Rattle.moxi_term_reading.specs.Forms.{place_in}
use Rattle.moxi_term_reading.specs.Finding.{Found, first_of}
use Rattle.name_maps.specs.Names.{place_of}
use Rattle.moxi_term_reading.specs.Reading.{prime_failures}
use Rattle.moxi_term_reading.specs.SortReading.{sort_reading}
use Rattle.moxi_terms.specs.View.{ScopeState}
use Rattle.moxi_scripts.specs.declared.parts.Declared.{Declared}
use Rattle.moxi_scripts.specs.Collecting.{fails_if}
use Rattle.moxi_scripts.specs.Shapes.{NamedForm, named, misshapen}

abbrev pub sort_failures : Result Sort Refusal → List Refusal
sort_failures (Ok s) = []
sort_failures (Err f) = f ∷ []

abbrev pub known_sort : Result Sort Refusal → Option Sort
known_sort (Ok s) = Some s
known_sort (Err f) = None

abbrev pub entry_in : ScopeState → Place → Option NamedForm → List Declared
entry_in s p None = []
entry_in s p (Some n) = record { name = n.name; place = n.place; sort = known_sort (sort_reading s p n.form) } ∷ []

-- the variable that `(x S)` declares; without a sort, where that fails a test
abbrev pub entry_of : ScopeState → Tree → List Declared
entry_of s t = entry_in s (place_in t) (named t)

abbrev pub entry_tests : ScopeState → Place → Tree → Option NamedForm → List Refusal
entry_tests s around t None = misshapen around t ∷ []
entry_tests s around t (Some n) = prime_failures n.primed n.place ++ sort_failures (sort_reading s (place_in t) n.form)

-- the tests of an entry of a list at `around`
abbrev pub entry_failures : ScopeState → Place → Tree → List Refusal
entry_failures s around t = entry_tests s around t (named t)

abbrev pub entries_of : ScopeState → Trees → List Declared
entries_of s no_trees = []
entries_of s (tree t ts) = entry_of s t ++ entries_of s ts

abbrev pub entries_failures : ScopeState → Place → Trees → List Refusal
entries_failures s around no_trees = []
entries_failures s around (tree t ts) = entry_failures s around t ++ entries_failures s around ts

-- each form is `(x S)`
abbrev pub are_entries : Trees → Bool
are_entries no_trees = true
are_entries (tree t ts) = is_some (named t) && are_entries ts

-- the names, and this one, each once
abbrev pub names_with : List (List ℕ) → List ℕ → List (List ℕ)
names_with names name = if is_none (place_of names name) then names ++ name ∷ [] else names

-- a name that is declared twice fails where it is the second time
abbrev pub twice_tests : List (List ℕ) → Declared → List Refusal
twice_tests names d = fails_if (not (is_none (place_of names d.name))) 9 d.place

abbrev pub twice_failures : List (List ℕ) → List Declared → List Refusal
twice_failures names [] = []
twice_failures names (d ∷ ds) = twice_tests names d ++ twice_failures (names_with names d.name) ds

abbrev pub names_after : List (List ℕ) → List Declared → List (List ℕ)
names_after names [] = names
names_after names (d ∷ ds) = names_after (names_with names d.name) ds

-- variables among which names are found
abbrev pub locals_among : List Declared → List Local
locals_among ds = map (λ (d : Declared). record { name = d.name; sort = d.sort }) ds

abbrev pub found_sort : Option Found → Option Sort
found_sort None = None
found_sort (Some f) = f.sort

-- the sort that a name has among variables
abbrev pub sort_among : List Local → List ℕ → Option Sort
sort_among locals name = found_sort (first_of 0 locals name)

-- variables in the order of their numbers, each with the sort of the first of its name in the order of the text
abbrev pub locals_found : List Local → List Declared → List Local
locals_found text ds = map (λ (d : Declared). record { name = d.name; sort = sort_among text d.name }) ds

abbrev pub variable_of : List ℕ → Option Sort → List Variable
variable_of name None = []
variable_of name (Some s) = record { name = name; sort = s } ∷ []

-- those that have a sort
abbrev pub variables_of : List Declared → List Variable
variables_of [] = []
variables_of (d ∷ ds) = variable_of d.name d.sort ++ variables_of ds

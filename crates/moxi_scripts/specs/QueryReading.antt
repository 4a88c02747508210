-- The queries of a check, `(q (name ..))`: each names any assumptions and currents, and one or more reachable formulas, each once.
use Rattle.std.specs.Prelude.{ℕ, Bool, true, false, not, ◌&&◌, ◌||◌, is_none, if◌then◌else◌, Option, None, Some, List, [], ◌∷◌, ◌++◌}
use Rattle.digraph.specs.Graph.{are_distinct}
use Rattle.text_core.specs.declared.place.Place.{Place}
use Rattle.text_core.specs.declared.place.Refusal.{Refusal}
use Rattle.moxi_sexpr.specs.Lexing.{refusal}
use Rattle.moxi_sexpr.specs.Tree.{Tree, Trees, no_trees, tree}
use Rattle.moxi_term_reading.specs.Forms.{place_in, symbol_of}
use Rattle.name_maps.specs.Names.{place_of}
use Rattle.moxi_term_reading.specs.Reading.{prime_failures}
use Rattle.moxi_scripts.specs.declared.parts.Command.TheVariants.{Check}
use Rattle.moxi_scripts.specs.declared.parts.Key.TheVariants as keys
use Rattle.moxi_scripts.specs.declared.parts.Turn.{Turn}
use Rattle.moxi_scripts.specs.declared.parts.QueryNames.{QueryNames}
use Rattle.moxi_scripts.specs.declared.script.Query.{Query}
use Rattle.moxi_scripts.specs.Attributes.{is_behind, turn_after}
use Rattle.moxi_scripts.specs.Collecting.{fails_if}
use Rattle.moxi_scripts.specs.Declarations.{are_symbols}
use Rattle.moxi_scripts.specs.Entries.{names_with}
use Rattle.moxi_scripts.specs.Labels.{FormulaLists}
use Rattle.moxi_scripts.specs.Shapes.{NamedForm, misshapen, named, parts_of}

-- a name is that of an assumption, a current condition or a reachable formula, or of none
abbrev pub with_number : QueryNames → Option ℕ → Option ℕ → Option ℕ → QueryNames
with_number q (Some i) c r = record q { assumptions = q.assumptions ++ i ∷ [] }
with_number q None (Some i) r = record q { currents = q.currents ++ i ∷ [] }
with_number q None None (Some i) = record q { reachables = q.reachables ++ i ∷ [] }
with_number q None None None = record q { known = false }

abbrev pub with_prime : QueryNames → Bool → QueryNames
with_prime q primed = record q { primed = q.primed || primed }

abbrev pub with_symbol : FormulaLists → QueryNames → Option (List ℕ × Bool) → QueryNames
with_symbol ls q None = q
with_symbol ls q (Some x) = with_number (with_prime q x.1) (place_of ls.assumptions.names x.0) (place_of ls.currents.names x.0) (place_of ls.reachables.names x.0)

-- what the names of a query stand for
abbrev pub names_after : FormulaLists → QueryNames → Trees → QueryNames
names_after ls q no_trees = q
names_after ls q (tree t ts) = names_after ls (with_symbol ls q (symbol_of t)) ts

abbrev pub symbol_tests : Place → Option (List ℕ × Bool) → List Refusal
symbol_tests p None = []
symbol_tests p (Some x) = prime_failures x.1 p

abbrev pub symbols_failures : Trees → List Refusal
symbols_failures no_trees = []
symbols_failures (tree t ts) = symbol_tests (place_in t) (symbol_of t) ++ symbols_failures ts

abbrev pub no_names : QueryNames
no_names = record { assumptions = []; currents = []; reachables = []; known = true; primed = false }

-- one or more numbers, none of which occurs twice
abbrev pub some_distinct : List ℕ → Bool
some_distinct [] = false
some_distinct (n ∷ ns) = are_distinct (n ∷ ns)

-- the test of what a query names holds where a name is primed or a formula hasn't its shape
abbrev pub is_bad_query : FormulaLists → QueryNames → Bool
is_bad_query ls q = (ls.whole && not q.primed) && not (q.known && some_distinct q.reachables)

abbrev pub query_with : List ℕ → QueryNames → Query
query_with name q = record { name = name; assumptions = q.assumptions; currents = q.currents; reachables = q.reachables }

abbrev pub queries_among : FormulaLists → NamedForm → Option Trees → List Query
queries_among ls n None = []
queries_among ls n (Some ts) = query_with n.name (names_after ls no_names ts) ∷ []

abbrev pub queries_named : FormulaLists → Option NamedForm → List Query
queries_named ls None = []
queries_named ls (Some n) = queries_among ls n (parts_of n.form)

-- the query that a form spells
abbrev pub query_of : FormulaLists → Tree → List Query
query_of ls t = queries_named ls (named t)

abbrev pub list_failures : FormulaLists → Place → NamedForm → Option Trees → List Refusal
list_failures ls p n None = refusal 12 p ∷ []
list_failures ls p n (Some ts) =
    (symbols_failures ts ++ fails_if (not (are_symbols ts)) 12 (place_in n.form)) ++ fails_if (are_symbols ts && is_bad_query ls (names_after ls no_names ts)) 14 p

abbrev pub named_failures : FormulaLists → List (List ℕ) → Place → Tree → Option NamedForm → List Refusal
named_failures ls names around t None = misshapen around t ∷ []
named_failures ls names around t (Some n) =
    (prime_failures n.primed n.place ++ fails_if (not (is_none (place_of names n.name))) 9 n.place) ++ list_failures ls (place_in t) n (parts_of n.form)

-- the tests of a query in a list at `around`, behind those of these names
abbrev pub query_failures : FormulaLists → List (List ℕ) → Place → Tree → List Refusal
query_failures ls names around t = named_failures ls names around t (named t)

abbrev pub names_with_named : List (List ℕ) → Option NamedForm → List (List ℕ)
names_with_named names None = names
names_with_named names (Some n) = names_with names n.name

abbrev pub names_with_query : List (List ℕ) → Tree → List (List ℕ)
names_with_query names t = names_with_named names (named t)

abbrev pub queries_in : FormulaLists → Trees → List Query
queries_in ls no_trees = []
queries_in ls (tree t ts) = query_of ls t ++ queries_in ls ts

abbrev pub queries_failures : FormulaLists → List (List ℕ) → Place → Trees → List Refusal
queries_failures ls names around no_trees = []
queries_failures ls names around (tree t ts) = query_failures ls names around t ++ queries_failures ls (names_with_query names t) around ts

abbrev pub names_with_queries : List (List ℕ) → Trees → List (List ℕ)
names_with_queries names no_trees = names
names_with_queries names (tree t ts) = names_with_queries (names_with_query names t) ts

abbrev pub forms_among : Option Trees → Trees
forms_among None = no_trees
forms_among (Some ts) = ts

-- the forms of queries that are there: `:query` has one, `:queries` a list of them
abbrev pub query_forms : Turn → Tree → Trees
query_forms turn t = if is_behind keys.Query turn then tree t no_trees else (if is_behind keys.Queries turn then forms_among (parts_of t) else no_trees)

-- the queries among the attributes of a check
abbrev pub queries_after : FormulaLists → Turn → Trees → List Query
queries_after ls turn no_trees = []
queries_after ls turn (tree t ts) = queries_in ls (query_forms turn t) ++ queries_after ls (turn_after Check turn t) ts

abbrev pub all_queries_failures : FormulaLists → List (List ℕ) → Turn → Trees → List Refusal
all_queries_failures ls names turn no_trees = []
all_queries_failures ls names turn (tree t ts) =
    queries_failures ls names (place_in t) (query_forms turn t) ++ all_queries_failures ls (names_with_queries names (query_forms turn t)) (turn_after Check turn t) ts

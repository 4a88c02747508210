-- Each failing test of a script is of a kind of scripts.
use Rattle.std.proofs.Common.{ℕ, ◌+◌, ◌==◌, suc, length, Bool, cond, not, ◌&&◌, is_none, Result, Ok, Err, Option, None, Some, List, [], ◌∷◌, ◌++◌, refl}
use Rattle.text_core.specs.declared.place.Place.{Place}
use Rattle.text_core.specs.declared.place.Refusal.{Refusal}
use Rattle.digraph.specs.Graph.{NodeLists, leads}
use Rattle.moxi_sexpr.specs.Lexing.{refusal}
use Rattle.moxi_sexpr.specs.Tree.{Tree, atom, list, Trees, no_trees, tree}
use Rattle.moxi_terms.specs.declared.data.Primes.{Primes}
use Rattle.moxi_terms.specs.declared.data.Primes.TheVariants.{Allowed, Refused}
use Rattle.moxi_terms.specs.declared.data.Sort.{Sort}
use Rattle.moxi_terms.specs.declared.data.Sort.TheVariants.{Truth}
use Rattle.moxi_term_reading.specs.declared.locals.Local.{Local}
use Rattle.moxi_term_reading.specs.Forms.{only_of, pair_of, place_in, symbol_of}
use Rattle.moxi_terms.specs.Names.{is_sort_name}
use Rattle.name_maps.specs.Names.{place_of}
use Rattle.moxi_term_reading.specs.Finding.{first_of}
use Rattle.moxi_term_reading.specs.Reading.{prime_failures}
use Rattle.moxi_term_reading.specs.SortReading.{sort_reading}
use Rattle.moxi_terms.specs.Sorts.{same_sort}
use Rattle.moxi_terms.specs.View.{ScopeState}
use Rattle.moxi_scripts.specs.declared.parts.Command.{Command}
use Rattle.moxi_scripts.specs.declared.parts.Command.TheVariants.{System, Check}
use Rattle.moxi_scripts.specs.declared.parts.Key.TheVariants as keys
use Rattle.moxi_scripts.specs.declared.parts.Turn.{Turn}
use Rattle.moxi_scripts.specs.declared.parts.Turn.TheVariants.{AtKeyword, Behind, Passing}
use Rattle.moxi_scripts.specs.declared.parts.ListPlaces.{ListPlaces}
use Rattle.moxi_scripts.specs.declared.parts.CommandName.{CommandName}
use Rattle.moxi_scripts.specs.declared.parts.CommandName.TheVariants as name
use Rattle.moxi_scripts.specs.declared.parts.Declared.{Declared}
use Rattle.moxi_scripts.specs.declared.parts.DeclaredList.{DeclaredList}
use Rattle.moxi_scripts.specs.declared.parts.Lists.{Lists}
use Rattle.moxi_scripts.specs.declared.parts.Actual.{Actual}
use Rattle.moxi_scripts.specs.declared.parts.Use.{Use}
use Rattle.moxi_scripts.specs.Attributes as attributes
use Rattle.moxi_scripts.specs.Checks as checks
use Rattle.moxi_scripts.specs.Collecting.{fails_if}
use Rattle.moxi_scripts.specs.Commands as commands
use Rattle.moxi_scripts.specs.Cycles as cycles
use Rattle.moxi_scripts.specs.Declarations as declarations
use Rattle.moxi_scripts.specs.Entries as entries
use Rattle.moxi_scripts.specs.Formulas as formulas
use Rattle.moxi_scripts.specs.Labels as labels
use Rattle.moxi_scripts.specs.Links as links
use Rattle.moxi_scripts.specs.Lists as lists
use Rattle.moxi_scripts.specs.QueryReading as queries
use Rattle.moxi_scripts.specs.Shapes.{HeadedForms, NamedForm, headed, named, named_in, parts_of}
use Rattle.moxi_scripts.specs.Spelling.{reading_of, script_failures}
use Rattle.moxi_scripts.specs.Systems as systems
use Rattle.moxi_scripts.specs.Uses as uses
use Rattle.moxi_scripts.proofs.KindLaws.{Fine, FineEnd, either, join, primes, reads, sorts, tested}

-- LISTS OF VARIABLES

sort_ends : (r : Result Sort Refusal) → FineEnd r → Fine (entries.sort_failures r)
sort_ends (Ok s) h = tt
sort_ends (Err f) h = (h, tt)

entry_tests : (s : ScopeState) (around : Place) (t : Tree) (o : Option NamedForm) → Fine (entries.entry_tests s around t o)
entry_tests s around t None = (refl, tt)
entry_tests s around t (Some n) =
    join (prime_failures n.primed n.place) (entries.sort_failures (sort_reading s (place_in t) n.form)) (primes n.primed n.place) (sort_ends (sort_reading s (place_in t) n.form) (sorts s (place_in t) n.form))

entries_fine : (s : ScopeState) (around : Place) (ts : Trees) → Fine (entries.entries_failures s around ts)
entries_fine s around no_trees = tt
entries_fine s around (tree t ts) = join (entries.entry_failures s around t) (entries.entries_failures s around ts) (entry_tests s around t (named t)) (entries_fine s around ts)

twice : (ns : List (List ℕ)) (ds : List Declared) → Fine (entries.twice_failures ns ds)
twice ns [] = tt
twice ns (d ∷ ds) = join (entries.twice_tests ns d) (entries.twice_failures (entries.names_with ns d.name) ds) (tested (not (is_none (place_of ns d.name))) 9 d.place refl) (twice (entries.names_with ns d.name) ds)

entries_tests : (s : ScopeState) (t : Tree) (o : Option Trees) → Fine (lists.entries_tests s t o)
entries_tests s t None = tt
entries_tests s t (Some ts) = entries_fine s (place_in t) ts

listed : (s : ScopeState) (o : Option Tree) → Fine (lists.listed_failures s o)
listed s None = tt
listed s (Some t) = entries_tests s t (parts_of t)

lists_fine : (s : ScopeState) (command : Command) (ts : Trees) → Fine (lists.lists_failures s command ts)
lists_fine s command ts =
    join (lists.listed_failures s (lists.value_at command keys.Input ts) ++ lists.listed_failures s (lists.value_at command keys.Output ts)) (lists.listed_failures s (lists.value_at command keys.Local ts))
    (join (lists.listed_failures s (lists.value_at command keys.Input ts)) (lists.listed_failures s (lists.value_at command keys.Output ts)) (listed s (lists.value_at command keys.Input ts)) (listed s (lists.value_at command keys.Output ts)))
    (listed s (lists.value_at command keys.Local ts))

-- DECLARATIONS

clashes : (a b : Option Sort) (p : Place) → Fine (declarations.clash_failures a b p)
clashes None b p = tt
clashes (Some a) None p = tt
clashes (Some a) (Some b) p = tested (not (same_sort a b)) 5 p refl

constant_tests : (s : ScopeState) (ns : List (List ℕ)) (p : Place) (o : Option (List ℕ × Bool)) → Fine (declarations.constant_tests s ns p o)
constant_tests s ns p None = tt
constant_tests s ns p (Some x) = join (prime_failures x.1 p) (declarations.term_name_tests s ns x.0 p) (primes x.1 p) (tested (declarations.is_taken s ns x.0) 9 p refl)

constants : (s : ScopeState) (ns : List (List ℕ)) (ts : Trees) → Fine (declarations.constants_failures s ns ts)
constants s ns no_trees = tt
constants s ns (tree t ts) =
    join (declarations.constant_tests s ns (place_in t) (symbol_of t)) (declarations.constants_failures s (declarations.with_constant s ns (symbol_of t)) ts)
    (constant_tests s ns (place_in t) (symbol_of t)) (constants s (declarations.with_constant s ns (symbol_of t)) ts)

listed_constants : (s : ScopeState) (ns : List (List ℕ)) (p : Place) (n : NamedForm) (o : Option Trees) → Fine (declarations.listed_failures s ns p n o)
listed_constants s ns p n None = (refl, tt)
listed_constants s ns p n (Some cs) =
    join (prime_failures n.primed n.place ++ fails_if (is_sort_name s n.name) 9 n.place) (declarations.constants_failures s ns cs ++ fails_if (not (declarations.may_be_constants cs)) 12 (place_in n.form))
    (join (prime_failures n.primed n.place) (fails_if (is_sort_name s n.name) 9 n.place) (primes n.primed n.place) (tested (is_sort_name s n.name) 9 n.place refl))
    (join (declarations.constants_failures s ns cs) (fails_if (not (declarations.may_be_constants cs)) 12 (place_in n.form)) (constants s ns cs) (tested (not (declarations.may_be_constants cs)) 12 (place_in n.form) refl))

enumerations : (s : ScopeState) (ns : List (List ℕ)) (p : Place) (o : Option NamedForm) → Fine (declarations.enumeration_tests s ns p o)
enumerations s ns p None = (refl, tt)
enumerations s ns p (Some n) = listed_constants s ns p n (declarations.constants_in n)

defined_sorts : (s : ScopeState) (p : Place) (h : HeadedForms) (o : Option (Tree × Tree)) → Fine (declarations.defined_sort_tests s p h o)
defined_sorts s p h None = (refl, tt)
defined_sorts s p h (Some x) =
    join (prime_failures h.primed h.place ++ fails_if (is_sort_name s h.name) 9 h.place) (declarations.parameters_failures p x.0 ++ entries.sort_failures (sort_reading s p x.1))
    (join (prime_failures h.primed h.place) (fails_if (is_sort_name s h.name) 9 h.place) (primes h.primed h.place) (tested (is_sort_name s h.name) 9 h.place refl))
    (join (declarations.parameters_failures p x.0) (entries.sort_failures (sort_reading s p x.1)) (tested (not (declarations.is_empty_list x.0)) 12 _ refl) (sort_ends (sort_reading s p x.1) (sorts s p x.1)))

sort_tests : (s : ScopeState) (p : Place) (o : Option HeadedForms) → Fine (declarations.sort_tests s p o)
sort_tests s p None = (refl, tt)
sort_tests s p (Some h) = defined_sorts s p h (pair_of h.rest)

function_parts : (s : ScopeState) (p : Place) (f : declarations.FunctionForms) → Fine (declarations.part_failures s p f)
function_parts s p f =
    let body = declarations.body_reading s f in
    let r = declarations.result_sort s p f in
    join (entries.entries_failures s f.place f.parameters ++ entries.sort_failures r) (body.failures ++ declarations.clash_failures (entries.known_sort r) body.sort (place_in f.body))
    (join (entries.entries_failures s f.place f.parameters) (entries.sort_failures r) (entries_fine s f.place f.parameters) (sort_ends r (sorts s p f.result)))
    (join body.failures (declarations.clash_failures (entries.known_sort r) body.sort (place_in f.body)) (reads _ [] f.body) (clashes (entries.known_sort r) body.sort (place_in f.body)))

function_names : (s : ScopeState) (ns : List (List ℕ)) (f : declarations.FunctionForms) → Fine (declarations.name_failures s ns f)
function_names s ns f =
    join (prime_failures f.name.primed f.name.place ++ declarations.term_name_tests s ns f.name.name f.name.place) (entries.twice_failures [] (entries.entries_of s f.parameters))
    (join (prime_failures f.name.primed f.name.place) (declarations.term_name_tests s ns f.name.name f.name.place) (primes f.name.primed f.name.place) (tested (declarations.is_taken s ns f.name.name) 9 f.name.place refl))
    (twice [] (entries.entries_of s f.parameters))

function_tests : (s : ScopeState) (ns : List (List ℕ)) (p : Place) (o : Option declarations.FunctionForms) → Fine (declarations.function_tests s ns p o)
function_tests s ns p None = (refl, tt)
function_tests s ns p (Some f) = join (declarations.name_failures s ns f) (declarations.part_failures s p f) (function_names s ns f) (function_parts s p f)

-- ATTRIBUTES, FORMULAS AND SUBSYSTEMS

unknown_keywords : (command : Command) (o : Option (List ℕ)) (p : Place) → Fine (attributes.unknown_keyword command o p)
unknown_keywords command None p = tt
unknown_keywords command (Some n) p = tested (is_none (attributes.key_named command n)) 6 p refl

unknown_tests : (command : Command) (turn : Turn) (t : Tree) → Fine (attributes.unknown_tests command turn t)
unknown_tests command AtKeyword t = unknown_keywords command (attributes.keyword_of t) (place_in t)
unknown_tests command (Behind k) t = tt
unknown_tests command Passing t = unknown_keywords command (attributes.keyword_of t) (place_in t)

unknowns : (command : Command) (turn : Turn) (ts : Trees) → Fine (attributes.unknown_failures command turn ts)
unknowns command turn no_trees = tt
unknowns command turn (tree t ts) =
    join (attributes.unknown_tests command turn t) (attributes.unknown_failures command (attributes.turn_after command turn t) ts) (unknown_tests command turn t) (unknowns command (attributes.turn_after command turn t) ts)

terms : (s : ScopeState) (vs : List Local) (may : Primes) (t : Tree) → Fine (formulas.term_failures s vs may t)
terms s vs may t =
    join (formulas.reading_of s vs may t).failures (declarations.clash_failures (Some Truth) (formulas.reading_of s vs may t).sort (place_in t)) (reads _ [] t)
    (clashes (Some Truth) (formulas.reading_of s vs may t).sort (place_in t))

formulas_fine : (s : ScopeState) (vs : List Local) (may : Primes) (o : Option Tree) → Fine (formulas.formula_failures s vs may o)
formulas_fine s vs may None = tt
formulas_fine s vs may (Some t) = terms s vs may t

actual_tests : (vs : List Local) (p : Place) (o : Option (List ℕ × Bool)) → Fine (uses.actual_tests vs p o)
actual_tests vs p None = tt
actual_tests vs p (Some x) = join (prime_failures x.1 p) (fails_if (is_none (first_of 0 vs x.0)) 4 p) (primes x.1 p) (tested (is_none (first_of 0 vs x.0)) 4 p refl)

actuals : (vs : List Local) (ts : Trees) → Fine (uses.actuals_failures vs ts)
actuals vs no_trees = tt
actuals vs (tree t ts) = join (uses.actual_failures vs t) (uses.actuals_failures vs ts) (actual_tests vs (place_in t) (symbol_of t)) (actuals vs ts)

targets : (vs : List Local) (q : Place) (h : HeadedForms) → Fine (uses.target_failures vs q h)
targets vs q h =
    join (prime_failures h.primed h.place ++ uses.actuals_failures vs h.rest) (fails_if (not (declarations.are_symbols h.rest)) 12 q)
    (join (prime_failures h.primed h.place) (uses.actuals_failures vs h.rest) (primes h.primed h.place) (actuals vs h.rest)) (tested (not (declarations.are_symbols h.rest)) 12 q refl)

uses_headed : (vs : List Local) (q : Place) (o : Option HeadedForms) → Fine (uses.headed_failures vs q o)
uses_headed vs q None = (refl, tt)
uses_headed vs q (Some h) = targets vs q h

uses_among : (vs : List Local) (p : Place) (n : NamedForm) (o : Option Trees) → Fine (uses.among_failures vs p n o)
uses_among vs p n None = (refl, tt)
uses_among vs p n (Some ts) = uses_headed vs (place_in n.form) (headed ts)

uses_named : (ns : List (List ℕ)) (vs : List Local) (t : Tree) (o : Option NamedForm) → Fine (uses.named_failures ns vs t o)
uses_named ns vs t None = (refl, tt)
uses_named ns vs t (Some n) =
    join (prime_failures n.primed n.place ++ fails_if (not (is_none (place_of ns n.name))) 9 n.place) (uses.use_failures vs (place_in t) n)
    (join (prime_failures n.primed n.place) (fails_if (not (is_none (place_of ns n.name))) 9 n.place) (primes n.primed n.place) (tested (not (is_none (place_of ns n.name))) 9 n.place refl))
    (uses_among vs (place_in t) n (parts_of n.form))

uses_fine : (vs : List Local) (ns : List (List ℕ)) (turn : Turn) (ts : Trees) → Fine (uses.uses_failures vs ns turn ts)
uses_fine vs ns turn no_trees = tt
uses_fine vs ns turn (tree t ts) =
    let more = cond (attributes.is_behind keys.Subsystem turn) (uses.names_with_use ns t) ns in
    join (cond (attributes.is_behind keys.Subsystem turn) (uses.use_tests ns vs t) []) (uses.uses_failures vs more (attributes.turn_after System turn t) ts)
    (either (attributes.is_behind keys.Subsystem turn) (uses.use_tests ns vs t) [] (uses_named ns vs t (named t)) tt) (uses_fine vs more (attributes.turn_after System turn t) ts)

variables : (s : ScopeState) (command : Command) (ts : Trees) → Fine (systems.variables_failures s command ts)
variables s command ts =
    let ds = systems.text_entries_in s command ts in
    join (attributes.unknown_failures command AtKeyword ts ++ lists.lists_failures s command ts) (entries.twice_failures [] ds)
    (join (attributes.unknown_failures command AtKeyword ts) (lists.lists_failures s command ts) (unknowns command AtKeyword ts) (lists_fine s command ts)) (twice [] ds)

-- SYSTEMS

system_formulas : (s : ScopeState) (vs : List Local) (ts : Trees) → Fine (systems.formulas_failures s vs ts)
system_formulas s vs ts =
    let init = lists.value_at System keys.Init ts in
    let trans = lists.value_at System keys.Trans ts in
    let inv = lists.value_at System keys.Inv ts in
    join (formulas.formula_failures s vs Refused init ++ formulas.formula_failures s vs Allowed trans) (formulas.formula_failures s vs Refused inv)
    (join (formulas.formula_failures s vs Refused init) (formulas.formula_failures s vs Allowed trans) (formulas_fine s vs Refused init) (formulas_fine s vs Allowed trans)) (formulas_fine s vs Refused inv)

system_content : (s : ScopeState) (ts : Trees) → Fine (systems.content_failures s ts)
system_content s ts =
    let vs = systems.locals_of s System ts in
    join (systems.variables_failures s System ts ++ systems.formulas_failures s vs ts) (uses.uses_failures vs [] AtKeyword ts)
    (join (systems.variables_failures s System ts) (systems.formulas_failures s vs ts) (variables s System ts) (system_formulas s vs ts)) (uses_fine vs [] AtKeyword ts)

system_shape : (s : ScopeState) (p : Place) (ts : Trees) → Fine (systems.shaped_failures s p ts)
system_shape s p ts = either (attributes.shape_holds System ts) (systems.content_failures s ts) (refusal 12 p ∷ []) (system_content s ts) (refl, tt)

system_tests : (s : ScopeState) (ns : List (List ℕ)) (p : Place) (o : Option HeadedForms) → Fine (systems.headed_system_failures s ns p o)
system_tests s ns p None = (refl, tt)
system_tests s ns p (Some h) =
    let taken = not (is_none (place_of ns h.name)) in
    join (prime_failures h.primed h.place ++ fails_if taken 9 h.place) (systems.shaped_failures s p h.rest)
    (join (prime_failures h.primed h.place) (fails_if taken 9 h.place) (primes h.primed h.place) (tested taken 9 h.place refl)) (system_shape s p h.rest)

-- CHECKS

labels_named : (s : ScopeState) (vs : List Local) (ls : labels.FormulaLists) (t : Tree) (o : Option NamedForm) → Fine (labels.named_tests s vs ls t o)
labels_named s vs ls t None = (refl, tt)
labels_named s vs ls t (Some n) =
    join (prime_failures n.primed n.place ++ fails_if (labels.is_label ls n.name) 9 n.place) (formulas.term_failures s vs Refused n.form)
    (join (prime_failures n.primed n.place) (fails_if (labels.is_label ls n.name) 9 n.place) (primes n.primed n.place) (tested (labels.is_label ls n.name) 9 n.place refl)) (terms s vs Refused n.form)

label_tests : (s : ScopeState) (vs : List Local) (turn : Turn) (ls : labels.FormulaLists) (t : Tree) → Fine (labels.label_tests s vs turn ls t)
label_tests s vs AtKeyword ls t = tt
label_tests s vs (Behind k) ls t = either (labels.is_formula_key k) (labels.named_tests s vs ls t (named t)) [] (labels_named s vs ls t (named t)) tt
label_tests s vs Passing ls t = tt

labels_fine : (s : ScopeState) (vs : List Local) (ls : labels.FormulaLists) (turn : Turn) (ts : Trees) → Fine (labels.labels_failures s vs ls turn ts)
labels_fine s vs ls turn no_trees = tt
labels_fine s vs ls turn (tree t ts) =
    join (labels.label_tests s vs turn ls t) (labels.labels_failures s vs (labels.labels_with s vs turn ls t) (attributes.turn_after Check turn t) ts) (label_tests s vs turn ls t)
    (labels_fine s vs (labels.labels_with s vs turn ls t) (attributes.turn_after Check turn t) ts)

symbol_tests : (p : Place) (o : Option (List ℕ × Bool)) → Fine (queries.symbol_tests p o)
symbol_tests p None = tt
symbol_tests p (Some x) = primes x.1 p

symbols : (ts : Trees) → Fine (queries.symbols_failures ts)
symbols no_trees = tt
symbols (tree t ts) = join (queries.symbol_tests (place_in t) (symbol_of t)) (queries.symbols_failures ts) (symbol_tests (place_in t) (symbol_of t)) (symbols ts)

query_lists : (ls : labels.FormulaLists) (p : Place) (n : NamedForm) (o : Option Trees) → Fine (queries.list_failures ls p n o)
query_lists ls p n None = (refl, tt)
query_lists ls p n (Some ts) =
    let bad = declarations.are_symbols ts && queries.is_bad_query ls (queries.names_after ls queries.no_names ts) in
    join (queries.symbols_failures ts ++ fails_if (not (declarations.are_symbols ts)) 12 (place_in n.form)) (fails_if bad 14 p)
    (join (queries.symbols_failures ts) (fails_if (not (declarations.are_symbols ts)) 12 (place_in n.form)) (symbols ts) (tested (not (declarations.are_symbols ts)) 12 (place_in n.form) refl)) (tested bad 14 p refl)

queries_named : (ls : labels.FormulaLists) (ns : List (List ℕ)) (around : Place) (t : Tree) (o : Option NamedForm) → Fine (queries.named_failures ls ns around t o)
queries_named ls ns around t None = (refl, tt)
queries_named ls ns around t (Some n) =
    join (prime_failures n.primed n.place ++ fails_if (not (is_none (place_of ns n.name))) 9 n.place) (queries.list_failures ls (place_in t) n (parts_of n.form))
    (join (prime_failures n.primed n.place) (fails_if (not (is_none (place_of ns n.name))) 9 n.place) (primes n.primed n.place) (tested (not (is_none (place_of ns n.name))) 9 n.place refl))
    (query_lists ls (place_in t) n (parts_of n.form))

queries_fine : (ls : labels.FormulaLists) (ns : List (List ℕ)) (around : Place) (ts : Trees) → Fine (queries.queries_failures ls ns around ts)
queries_fine ls ns around no_trees = tt
queries_fine ls ns around (tree t ts) =
    join (queries.query_failures ls ns around t) (queries.queries_failures ls (queries.names_with_query ns t) around ts) (queries_named ls ns around t (named t)) (queries_fine ls (queries.names_with_query ns t) around ts)

all_queries : (ls : labels.FormulaLists) (ns : List (List ℕ)) (turn : Turn) (ts : Trees) → Fine (queries.all_queries_failures ls ns turn ts)
all_queries ls ns turn no_trees = tt
all_queries ls ns turn (tree t ts) =
    let more = queries.names_with_queries ns (queries.query_forms turn t) in
    join (queries.queries_failures ls ns (place_in t) (queries.query_forms turn t)) (queries.all_queries_failures ls more (attributes.turn_after Check turn t) ts)
    (queries_fine ls ns (place_in t) (queries.query_forms turn t)) (all_queries ls more (attributes.turn_after Check turn t) ts)

check_content : (s : ScopeState) (ts : Trees) → Fine (checks.content_failures s ts)
check_content s ts =
    let vs = systems.locals_of s Check ts in
    join (systems.variables_failures s Check ts ++ labels.labels_failures s vs labels.no_labels AtKeyword ts) (queries.all_queries_failures (checks.labels_in s ts) [] AtKeyword ts)
    (join (systems.variables_failures s Check ts) (labels.labels_failures s vs labels.no_labels AtKeyword ts) (variables s Check ts) (labels_fine s vs labels.no_labels AtKeyword ts))
    (all_queries (checks.labels_in s ts) [] AtKeyword ts)

check_tests : (s : ScopeState) (p : Place) (o : Option HeadedForms) → Fine (checks.headed_failures s p o)
check_tests s p None = (refl, tt)
check_tests s p (Some h) =
    either (attributes.shape_holds Check h.rest) (prime_failures h.primed h.place ++ checks.content_failures s h.rest) (refusal 12 p ∷ [])
    (join (prime_failures h.primed h.place) (checks.content_failures s h.rest) (primes h.primed h.place) (check_content s h.rest)) (refl, tt)

-- COMMANDS

logic_symbols : (p q : Place) (o : Option (List ℕ × Bool)) → Fine (commands.logic_symbol_failures p q o)
logic_symbols p q None = (refl, tt)
logic_symbols p q (Some x) = primes x.1 q

logics : (p : Place) (o : Option Tree) → Fine (commands.logic_failures p o)
logics p None = (refl, tt)
logics p (Some t) = logic_symbols p (place_in t) (symbol_of t)

command_tests : (c : CommandName) (r : commands.Reading) (p : Place) (ts : Trees) → Fine (commands.command_failures c r p ts)
command_tests name.Logic r p ts = logics p (only_of ts)
command_tests name.PassedOver r p ts = tt
command_tests name.Enumeration r p ts = enumerations r.scope r.term_names p (named_in (headed ts))
command_tests name.Sort r p ts = sort_tests r.scope p (headed ts)
command_tests name.Function r p ts = function_tests r.scope r.term_names p (declarations.function_forms ts)
command_tests name.System r p ts = system_tests r.scope r.system_names p (headed ts)
command_tests name.Check r p ts = join (checks.check_failures r.scope p ts) (fails_if r.checked 13 p) (check_tests r.scope p (headed ts)) (tested r.checked 13 p refl)

known : (o : Option CommandName) (r : commands.Reading) (p : Place) (ts : Trees) → Fine (commands.known_failures o r p ts)
known None r p ts = (refl, tt)
known (Some c) r p ts = command_tests c r p ts

headed_forms : (r : commands.Reading) (p : Place) (o : Option HeadedForms) → Fine (commands.headed_failures r p o)
headed_forms r p None = (refl, tt)
headed_forms r p (Some h) = join (prime_failures h.primed h.place) (commands.known_failures (commands.command_named h.name) r p h.rest) (primes h.primed h.place) (known (commands.command_named h.name) r p h.rest)

one_form : (r : commands.Reading) (t : Tree) → Fine (commands.form_failures r t)
one_form r (atom p a) = (refl, tt)
one_form r (list p ts) = headed_forms r p (headed ts)

all_forms : (r : commands.Reading) (ts : Trees) → Fine (commands.commands_failures r ts)
all_forms r no_trees = tt
all_forms r (tree t ts) = join (commands.form_failures r t) (commands.commands_failures (commands.with_form r t) ts) (one_form r t) (all_forms (commands.with_form r t) ts)

-- WHAT RESTS ON THE WHOLE SCRIPT

taken : (s : ScopeState) (ns : List (List ℕ)) (ds : List Declared) → Fine (links.taken_failures s ns ds)
taken s ns [] = tt
taken s ns (d ∷ ds) = join (fails_if (declarations.is_taken s ns d.name) 9 d.place) (links.taken_failures s ns ds) (tested (declarations.is_taken s ns d.name) 9 d.place refl) (taken s ns ds)

actuals_clash : (l : Lists) (i : ℕ) (xs : List Actual) → Fine (links.actuals_clash l i xs)
actuals_clash l i [] = tt
actuals_clash l i (a ∷ xs) = join (declarations.clash_failures a.sort (links.sort_at l i) a.place) (links.actuals_clash l (suc i) xs) (clashes a.sort (links.sort_at l i) a.place) (actuals_clash l (suc i) xs)

actuals_fit : (u : Use) (o : Option Lists) → Fine (links.actuals_failures u o)
actuals_fit u None = tt
actuals_fit u (Some l) =
    either (l.inputs.shaped && l.outputs.shaped) (links.fit_failures u l) []
    (either (length u.actuals == length l.inputs.entries + length l.outputs.entries) (links.actuals_clash l 0 u.actuals) (refusal 12 u.list ∷ []) (actuals_clash l 0 u.actuals) (refl, tt)) tt

use_targets : (rs : List systems.SystemReading) (u : Use) (o : Option ℕ) → Fine (links.target_failures rs u o)
use_targets rs u None = (refl, tt)
use_targets rs u (Some j) = actuals_fit u (links.lists_at rs j)

uses_linked : (rs : List systems.SystemReading) (ns : List (List ℕ)) (us : List Use) → Fine (links.uses_failures rs ns us)
uses_linked rs ns [] = tt
uses_linked rs ns (u ∷ us) = join (links.use_failures rs ns u) (links.uses_failures rs ns us) (use_targets rs u (place_of ns u.target)) (uses_linked rs ns us)

systems_linked : (all : List systems.SystemReading) (ns : List (List ℕ)) (rs : List systems.SystemReading) → Fine (links.systems_failures all ns rs)
systems_linked all ns [] = tt
systems_linked all ns (r ∷ rs) = join (links.uses_failures all ns r.uses) (links.systems_failures all ns rs) (uses_linked all ns r.uses) (systems_linked all ns rs)

list_fits : (a b : DeclaredList) (p : Place) → Fine (links.list_failures a b p)
list_fits a b p = tested ((a.whole && b.whole) && not (links.entries_fit a.entries b.entries)) 13 p refl

lists_fit : (o : Option Lists) (c : Lists) (p : ListPlaces) → Fine (links.lists_failures o c p)
lists_fit None c p = tt
lists_fit (Some l) c p =
    join (links.list_failures l.inputs c.inputs p.inputs ++ links.list_failures l.outputs c.outputs p.outputs) (links.list_failures l.locals c.locals p.locals)
    (join (links.list_failures l.inputs c.inputs p.inputs) (links.list_failures l.outputs c.outputs p.outputs) (list_fits l.inputs c.inputs p.inputs) (list_fits l.outputs c.outputs p.outputs))
    (list_fits l.locals c.locals p.locals)

checked : (rs : List systems.SystemReading) (c : checks.CheckReading) (o : Option ℕ) → Fine (links.checked_failures rs c o)
checked rs c None = (refl, tt)
checked rs c (Some j) = lists_fit (links.lists_at rs j) c.lists c.places

check_linked : (rs : List systems.SystemReading) (ns : List (List ℕ)) (o : Option checks.CheckReading) → Fine (links.check_failures rs ns o)
check_linked rs ns None = tt
check_linked rs ns (Some c) = checked rs c (place_of ns c.target)

linked : (r : commands.Reading) (end : Place) → Fine (links.links_failures r end)
linked r end =
    join ((links.taken_failures r.scope r.term_names r.variables ++ links.all_systems_failures r) ++ links.check_failures r.systems r.system_names r.check) (fails_if (not r.checked) 13 end)
    (join (links.taken_failures r.scope r.term_names r.variables ++ links.all_systems_failures r) (links.check_failures r.systems r.system_names r.check)
    (join (links.taken_failures r.scope r.term_names r.variables) (links.all_systems_failures r) (taken r.scope r.term_names r.variables)
    (join (links.systems_failures r.systems r.system_names r.systems) (links.systems_failures r.systems r.system_names r.repeated)
    (systems_linked r.systems r.system_names r.systems) (systems_linked r.systems r.system_names r.repeated)))
    (check_linked r.systems r.system_names r.check)) (tested (not r.checked) 13 end refl)

use_cycles : (g : NodeLists) (node : ℕ) (us : List Use) → Fine (cycles.use_cycles g node us)
use_cycles g node [] = tt
use_cycles g node (u ∷ us) = join (cycles.use_tests g node u) (cycles.use_cycles g (suc node) us) (tested (leads g (suc (length g)) node node) 11 u.place refl) (use_cycles g (suc node) us)

all_cycles : (g : NodeLists) (node : ℕ) (rs : List systems.SystemReading) → Fine (cycles.all_cycles g node rs)
all_cycles g node [] = tt
all_cycles g node (r ∷ rs) = join (cycles.use_cycles g node r.uses) (cycles.all_cycles g (node + length r.uses) rs) (use_cycles g node r.uses) (all_cycles g (node + length r.uses) rs)

pub script_kinds : (ts : Trees) (end : Place) → Fine (script_failures ts end)
script_kinds ts end =
    let r = reading_of ts in
    join (commands.commands_failures commands.nothing_read ts ++ links.links_failures r end) (cycles.cycle_failures r.systems r.system_names)
    (join (commands.commands_failures commands.nothing_read ts) (links.links_failures r end) (all_forms commands.nothing_read ts) (linked r end)) (all_cycles (cycles.use_graph r.systems r.system_names) 0 r.systems)

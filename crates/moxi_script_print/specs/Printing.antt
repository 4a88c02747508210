-- How a script is printed (MoXI, SPIN 2024): one command on each line, in the order logic, enumerations, defined sorts,
-- functions, systems, check.
use Rattle.std.specs.Prelude.{ℕ, Option, None, Some, List, [], ◌∷◌, ◌++◌, map, codes}
use Rattle.moxi_sexpr.specs.declared.form.Atom.TheVariants as atoms
use Rattle.moxi_terms.specs.declared.term.Enumeration.{Enumeration}
use Rattle.moxi_terms.specs.declared.term.NamedSort.{NamedSort}
use Rattle.moxi_terms.specs.declared.term.Variable.{Variable}
use Rattle.moxi_terms.specs.Tree.{Tree, PlainFunction}
use Rattle.moxi_terms.specs.View.{ScopeState}
use Rattle.moxi_term_print.specs.Shown.{Shown, word, part, group, Showns, no_showns, shown, joined}
use Rattle.moxi_term_print.specs.Terms.{symbol, name_at, shown_term, shown_variables, variable_names}
use Rattle.moxi_term_print.specs.Declarations.{shown_symbols, shown_enumeration, shown_named_sort, shown_function}
use Rattle.moxi_scripts.specs.declared.script.Subsystem.{Subsystem}
use Rattle.moxi_scripts.specs.declared.script.Query.{Query}
use Rattle.moxi_scripts.specs.Script.{PlainSystem, PlainFormula, PlainCheck, PlainScript, variables_in}
use Rattle.moxi_scripts.specs.Valid.{check_variables, formula_names}

-- a keyword and what is behind it
unfoldable pub attribute : List ℕ → Shown → Showns
attribute name x = shown (part (atoms.Keyword name)) (shown x no_showns)

-- `(word name ..)`
abbrev pub shown_command : List ℕ → List ℕ → Showns → Shown
shown_command w name xs = group (shown (word w) (shown (symbol name) xs))

-- `(name (n ..))`
abbrev pub shown_names : List ℕ → List (List ℕ) → Shown
shown_names name names = group (shown (symbol name) (shown (group (shown_symbols names)) no_showns))

abbrev pub list_attribute : ScopeState → List ℕ → List Variable → Showns
list_attribute s name vs = attribute name (group (shown_variables s vs))

-- the three lists of variables
unfoldable pub shown_lists : ScopeState → List Variable → List Variable → List Variable → Showns
shown_lists s inputs outputs locals = joined (list_attribute s (codes "input") inputs) (joined (list_attribute s (codes "output") outputs) (list_attribute s (codes "local") locals))

abbrev pub formula_attribute : ScopeState → List (List ℕ) → List ℕ → Tree → Showns
formula_attribute s vars name t = attribute name (shown_term s vars [] t)

-- SYSTEMS

abbrev pub system_names : List PlainSystem → List (List ℕ)
system_names ss = map (λ (s : PlainSystem). s.name) ss

-- the names of variables, by their numbers
abbrev pub names_of : List (List ℕ) → List ℕ → List (List ℕ)
names_of names ns = map (name_at names) ns

-- `(n (S x ..))`
abbrev pub shown_subsystem : List (List ℕ) → List (List ℕ) → Subsystem → Shown
shown_subsystem systems vars u = shown_names u.name (name_at systems u.system ∷ names_of vars u.actuals)

abbrev pub shown_subsystems : List (List ℕ) → List (List ℕ) → List Subsystem → Showns
shown_subsystems systems vars [] = no_showns
shown_subsystems systems vars (u ∷ us) = joined (attribute (codes "subsys") (shown_subsystem systems vars u)) (shown_subsystems systems vars us)

unfoldable pub shown_formulas : ScopeState → List (List ℕ) → Tree → Tree → Tree → Showns
shown_formulas s vars init trans inv =
    joined (formula_attribute s vars (codes "init") init) (joined (formula_attribute s vars (codes "trans") trans) (formula_attribute s vars (codes "inv") inv))

abbrev pub shown_system : ScopeState → List (List ℕ) → PlainSystem → Shown
shown_system s systems x =
    let vars = variable_names (variables_in x) in
    shown_command (codes "define-system") x.name
    (joined (shown_lists s x.inputs x.outputs x.locals) (joined (shown_formulas s vars x.init x.trans x.inv) (shown_subsystems systems vars x.subsystems)))

-- CHECKS

-- `(name term)`
abbrev pub shown_label : ScopeState → List (List ℕ) → PlainFormula → Shown
shown_label s vars f = group (shown (symbol f.name) (shown (shown_term s vars [] f.term) no_showns))

-- each formula of one kind
abbrev pub shown_labels : ScopeState → List (List ℕ) → List ℕ → List PlainFormula → Showns
shown_labels s vars name [] = no_showns
shown_labels s vars name (f ∷ fs) = joined (attribute name (shown_label s vars f)) (shown_labels s vars name fs)

-- the names of a query, given those of all formulas: assumptions, currents, reachable formulas
abbrev pub query_names : List (List ℕ) → List (List ℕ) → List (List ℕ) → Query → List (List ℕ)
query_names assumptions currents reachables q = names_of assumptions q.assumptions ++ (names_of currents q.currents ++ names_of reachables q.reachables)

abbrev pub shown_query : List (List ℕ) → List (List ℕ) → List (List ℕ) → Query → Showns
shown_query assumptions currents reachables q = attribute (codes "query") (shown_names q.name (query_names assumptions currents reachables q))

abbrev pub shown_queries : List (List ℕ) → List (List ℕ) → List (List ℕ) → List Query → Showns
shown_queries assumptions currents reachables [] = no_showns
shown_queries assumptions currents reachables (q ∷ qs) =
    joined (shown_query assumptions currents reachables q) (shown_queries assumptions currents reachables qs)

abbrev pub all_queries : PlainCheck → Showns
all_queries c = shown_queries (formula_names c.assumptions) (formula_names c.currents) (formula_names c.reachables) c.queries

-- what is behind the three lists of a check
unfoldable pub shown_conditions : ScopeState → List (List ℕ) → PlainCheck → Showns
shown_conditions s vars c =
    joined (shown_labels s vars (codes "assumption") c.assumptions) (joined (shown_labels s vars (codes "current") c.currents) (joined (shown_labels s vars (codes "reachable") c.reachables) (all_queries c)))

abbrev pub shown_check : ScopeState → List (List ℕ) → PlainCheck → Shown
shown_check s systems c =
    shown_command (codes "check-system") (name_at systems c.system)
    (joined (shown_lists s c.inputs c.outputs c.locals) (shown_conditions s (variable_names (check_variables c)) c))

-- SCRIPTS: each form on a line

abbrev pub shown_logic : Option (List ℕ) → Showns
shown_logic None = no_showns
shown_logic (Some name) = shown (shown_command (codes "set-logic") name no_showns) no_showns

abbrev pub shown_enumerations : List Enumeration → Showns
shown_enumerations [] = no_showns
shown_enumerations (e ∷ es) = shown (shown_enumeration e) (shown_enumerations es)

abbrev pub shown_sorts : ScopeState → List NamedSort → Showns
shown_sorts s [] = no_showns
shown_sorts s (n ∷ ns) = shown (shown_named_sort s n) (shown_sorts s ns)

abbrev pub shown_functions : ScopeState → List PlainFunction → Showns
shown_functions s [] = no_showns
shown_functions s (f ∷ fs) = shown (shown_function s f) (shown_functions s fs)

abbrev pub shown_systems : ScopeState → List (List ℕ) → List PlainSystem → Showns
shown_systems s systems [] = no_showns
shown_systems s systems (x ∷ xs) = shown (shown_system s systems x) (shown_systems s systems xs)

abbrev pub shown_script : PlainScript → Showns
shown_script p =
    let systems = system_names p.systems in
    joined (shown_logic p.logic) (joined (shown_enumerations p.scope.enumerations) (joined (shown_sorts p.scope p.scope.sorts) (joined (shown_functions p.scope p.scope.functions)
    (joined (shown_systems p.scope systems p.systems) (shown (shown_check p.scope systems p.check) no_showns)))))

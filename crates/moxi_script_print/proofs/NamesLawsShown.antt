-- What is shown of a valid script can be shown, where its names can be spelled.
use Rattle.std.proofs.Common.{ℕ, IfSome, Option, None, Some, List, [], ◌∷◌, ◌++◌, map, refl, sym, subst}
use Rattle.std.specs.Prelude.{IsTrue, codes}
use Rattle.std.specs.List.{AllByRecursion}
use Rattle.moxi_sexpr.specs.Atoms.{is_simple}
use Rattle.moxi_terms.specs.declared.data.Primes.{Primes}
use Rattle.moxi_terms.specs.declared.data.Primes.TheVariants.{Allowed, Refused}
use Rattle.moxi_terms.specs.declared.data.Sort.{Sort}
use Rattle.moxi_terms.specs.declared.data.Sort.TheVariants.{Truth}
use Rattle.moxi_term_reading.specs.declared.locals.Local.{Local}
use Rattle.moxi_terms.specs.declared.term.Enumeration.{Enumeration}
use Rattle.moxi_terms.specs.declared.term.NamedSort.{NamedSort}
use Rattle.moxi_terms.specs.declared.term.Variable.{Variable}
use Rattle.moxi_terms.specs.Names.{all_constants}
use Rattle.moxi_term_reading.specs.Reading as reading
use Rattle.moxi_term_reading.specs.Reading.{Context}
use Rattle.moxi_terms.specs.Sorted.{AreSorts}
use Rattle.moxi_terms.specs.Sorts.{IsSort}
use Rattle.moxi_terms.specs.Tree.{PlainFunction, Tree, sorts_of}
use Rattle.moxi_terms.specs.View.{ScopeState}
use Rattle.moxi_term_print.specs.Declarations.{shown_symbols}
use Rattle.moxi_term_print.specs.Shown.{AllCanBeShown, CanBeShown, Shown, Showns, joined, no_showns, shown}
use Rattle.moxi_term_print.specs.WellScoped.{IsWellScoped}
use Rattle.moxi_term_print.specs.StandingNames.{AreSpellable, IsSpellable, IsSpellableScope, NamesAreSpellable}
use Rattle.moxi_term_print.specs.WellScopedReads.{HasSortNames, IsKnownSort}
use Rattle.moxi_term_print.specs.Terms.{name_at, shown_sort, shown_term, shown_variables, variable_names}
use Rattle.moxi_scripts.specs.declared.script.Query.{Query}
use Rattle.moxi_scripts.specs.declared.script.Subsystem.{Subsystem}
use Rattle.moxi_script_print.specs.NamesOfScripts.{HasSpellableNames, IsSpellableCheck, IsSpellableFormula, IsSpellableFunction, IsSpellableSystem, VariablesAreSpellable}
use Rattle.moxi_script_print.specs.Printing as print
use Rattle.moxi_script_print.specs.Printing.{all_queries, attribute, formula_attribute, list_attribute, names_of, query_names, shown_check, shown_command, shown_conditions, shown_enumerations, shown_formulas, shown_functions, shown_label, shown_labels, shown_lists, shown_logic, shown_names, shown_queries, shown_script, shown_sorts, shown_subsystem, shown_subsystems, shown_system, shown_systems}
use Rattle.moxi_scripts.specs.Script.{PlainCheck, PlainFormula, PlainScript, PlainSystem, variables_in}
use Rattle.moxi_scripts.specs.Valid.{AreFormulas, IsFormula, IsValid, IsValidCheck, IsValidSystem, over, check_variables, formula_names}
use Rattle.moxi_script_print.specs.laws.VariableNames.{names_of_locals}
use Rattle.moxi_script_print.proofs.NamesLawsGrowth.{StandsInAll, TermsStandOn, functions_stand, has_sort_names}
use Rattle.moxi_scripts.specs.laws.WholeParts.{all_append, all_map, all_parts}
use Rattle.moxi_term_print.proofs.StandingShown.{name_spellable}
use Rattle.moxi_terms.proofs.ScopeLaws.{all_of}

abbrev pub TermsCanBeShown : Type 0
TermsCanBeShown = (c : Context) (bounds : List Local) (t : Tree) (s : Sort) → IsSpellableScope c.scope → AreSpellable (reading.names_of c.variables) → AreSpellable (reading.names_of bounds) → IsWellScoped c bounds t s → NamesAreSpellable t
    → CanBeShown (shown_term c.scope (reading.names_of c.variables) (reading.names_of bounds) t)

abbrev pub SortsCanBeShown : Type 0
SortsCanBeShown = (s : ScopeState) (sort : Sort) → IsSpellableScope s → IsKnownSort s sort → CanBeShown (shown_sort s sort)

abbrev pub SortsStand : Type 0
SortsStand = (s : ScopeState) (sort : Sort) → HasSortNames s → IsSort s.enumerations sort → IsKnownSort s sort

-- PARTS

joined_shown : (xs ys : Showns) → AllCanBeShown xs → AllCanBeShown ys → AllCanBeShown (joined xs ys)
joined_shown no_showns ys h g = g
joined_shown (shown x xs) ys h g = (h.0, joined_shown xs ys h.1 g)

attribute_shown : (name : List ℕ) (x : Shown) → IsTrue (is_simple name) → CanBeShown x → AllCanBeShown (attribute name x)
unfolding attribute
attribute_shown name x h g = (h, (g, tt))

command_shown : (word name : List ℕ) (xs : Showns) → IsTrue (is_simple word) → IsSpellable name → AllCanBeShown xs → CanBeShown (shown_command word name xs)
command_shown word name xs h n g = (h, (n, g))

symbols_shown : (names : List (List ℕ)) → AreSpellable names → AllCanBeShown (shown_symbols names)
symbols_shown [] h = tt
symbols_shown (name ∷ names) h = (h.0, symbols_shown names h.1)

names_shown : (name : List ℕ) (names : List (List ℕ)) → IsSpellable name → AreSpellable names → CanBeShown (shown_names name names)
names_shown name names h g = (h, (symbols_shown names g, tt))

numbered_spellable : (names : List (List ℕ)) (ns : List ℕ) → AreSpellable names → AreSpellable (names_of names ns)
numbered_spellable names [] h = tt
numbered_spellable names (n ∷ ns) h = (name_spellable names n h, numbered_spellable names ns h)

variables_spellable : (vs : List Variable) → VariablesAreSpellable vs → AreSpellable (variable_names vs)
variables_spellable vs h = all_map (λ (v : Variable). v.name) IsSpellable vs h

sorts_parts : (s : ScopeState) (xs ys : List Variable) → AreSorts s.enumerations (sorts_of (xs ++ ys)) → AreSorts s.enumerations (sorts_of xs) × AreSorts s.enumerations (sorts_of ys)
sorts_parts s [] ys h = (tt, h)
sorts_parts s (x ∷ xs) ys h = let p = sorts_parts s xs ys h.1 in ((h.0, p.0), p.1)

three_lists : (xs ys zs : List Variable) → VariablesAreSpellable xs → VariablesAreSpellable ys → VariablesAreSpellable zs → VariablesAreSpellable (xs ++ (ys ++ zs))
three_lists xs ys zs h g k =
    let P = λ (v : Variable). IsSpellable v.name in
    all_append P xs (ys ++ zs) h (all_append P ys zs g k)

-- DECLARATIONS

enumerations_shown : (es : List Enumeration) → AreSpellable (map (λ (e : Enumeration). e.name) es) → AreSpellable (all_constants es) → AllCanBeShown (shown_enumerations es)
enumerations_shown [] h g = tt
enumerations_shown (e ∷ es) h g =
    let p = all_parts IsSpellable e.constants (all_constants es) g in
    ((refl, (h.0, (symbols_shown e.constants p.0, tt))), enumerations_shown es h.1 p.1)

logic_shown : (o : Option (List ℕ)) → IfSome o IsSpellable → AllCanBeShown (shown_logic o)
logic_shown None h = tt
logic_shown (Some name) h = ((refl, (h, tt)), tt)

module _ (terms : TermsCanBeShown) (sorts : SortsCanBeShown) (stand : SortsStand) (s : ScopeState) (scope : IsSpellableScope s) (named : HasSortNames s) where
  sort_shown : (sort : Sort) → IsSort s.enumerations sort → CanBeShown (shown_sort s sort)
  sort_shown sort i = sorts s sort scope (stand s sort named i)

  variables_shown : (vs : List Variable) → AreSorts s.enumerations (sorts_of vs) → VariablesAreSpellable vs → AllCanBeShown (shown_variables s vs)
  variables_shown [] i h = tt
  variables_shown (v ∷ vs) i h = ((h.0, (sort_shown v.sort i.0, tt)), variables_shown vs i.1 h.1)

  term_shown : (vs : List Variable) (primes : Primes) (t : Tree) (sort : Sort) → VariablesAreSpellable vs → IsWellScoped (over s vs primes) [] t sort → NamesAreSpellable t → CanBeShown (shown_term s (variable_names vs) [] t)
  term_shown vs primes t sort h i n =
      subst (λ ns. CanBeShown (shown_term s ns [] t)) (names_of_locals vs)
      (terms (over s vs primes) [] t sort scope (subst AreSpellable (sym (names_of_locals vs)) (variables_spellable vs h)) tt i n)

  sorts_shown : (ns : List NamedSort) → AllByRecursion (λ (n : NamedSort). IsSort s.enumerations n.sort) ns → AllByRecursion (λ (n : NamedSort). IsSpellable n.name) ns → AllCanBeShown (shown_sorts s ns)
  sorts_shown [] i h = tt
  sorts_shown (n ∷ ns) i h = ((refl, (h.0, (tt, (sort_shown n.sort i.0, tt)))), sorts_shown ns i.1 h.1)

  functions_shown : (fs : List PlainFunction) → AllByRecursion (StandsInAll s) fs → AllByRecursion (λ (f : PlainFunction). IsSpellable f.name) fs → AllByRecursion IsSpellableFunction fs → AllCanBeShown (shown_functions s fs)
  functions_shown [] i n h = tt
  functions_shown (f ∷ fs) i n h = (
    (refl, (n.0, (variables_shown f.parameters i.0.parameters h.0.parameters, (sort_shown f.result i.0.result, (term_shown f.parameters Refused f.body f.result h.0.parameters i.0.body h.0.body, tt))))),
    functions_shown fs i.1 n.1 h.1,
  )

  -- LISTS AND FORMULAS

  list_shown : (name : List ℕ) (vs : List Variable) → IsTrue (is_simple name) → AreSorts s.enumerations (sorts_of vs) → VariablesAreSpellable vs → AllCanBeShown (list_attribute s name vs)
  list_shown name vs k i h = attribute_shown name _ k (variables_shown vs i h)

  lists_shown : (xs ys zs : List Variable) → AreSorts s.enumerations (sorts_of (xs ++ (ys ++ zs))) → VariablesAreSpellable xs → VariablesAreSpellable ys → VariablesAreSpellable zs → AllCanBeShown (shown_lists s xs ys zs)
  unfolding shown_lists
  lists_shown xs ys zs i h g k =
      let p = sorts_parts s xs (ys ++ zs) i in
      let q = sorts_parts s ys zs p.1 in
      joined_shown (list_attribute s (codes "input") xs) (joined (list_attribute s (codes "output") ys) (list_attribute s (codes "local") zs)) (list_shown (codes "input") xs refl p.0 h)
      (joined_shown (list_attribute s (codes "output") ys) (list_attribute s (codes "local") zs) (list_shown (codes "output") ys refl q.0 g) (list_shown (codes "local") zs refl q.1 k))

  formula_shown : (name : List ℕ) (vs : List Variable) (primes : Primes) (t : Tree) → IsTrue (is_simple name) → VariablesAreSpellable vs → IsFormula s vs primes t → NamesAreSpellable t
      → AllCanBeShown (formula_attribute s (variable_names vs) name t)
  formula_shown name vs primes t k h i n = attribute_shown name _ k (term_shown vs primes t Truth h i n)

  formulas_shown : (vs : List Variable) (x : PlainSystem) → VariablesAreSpellable vs → IsFormula s vs Refused x.init → IsFormula s vs Allowed x.trans → IsFormula s vs Refused x.inv → IsSpellableSystem x
      → AllCanBeShown (shown_formulas s (variable_names vs) x.init x.trans x.inv)
  unfolding shown_formulas
  formulas_shown vs x h a b c n =
      let init = formula_attribute s (variable_names vs) (codes "init") x.init in
      let trans = formula_attribute s (variable_names vs) (codes "trans") x.trans in
      let inv = formula_attribute s (variable_names vs) (codes "inv") x.inv in
      joined_shown init (joined trans inv) (formula_shown (codes "init") vs Refused x.init refl h a n.init)
      (joined_shown trans inv (formula_shown (codes "trans") vs Allowed x.trans refl h b n.trans) (formula_shown (codes "inv") vs Refused x.inv refl h c n.inv))

  labels_shown : (name : List ℕ) (vs : List Variable) (fs : List PlainFormula) → IsTrue (is_simple name) → VariablesAreSpellable vs → AreFormulas s vs fs → AllByRecursion IsSpellableFormula fs
      → AllCanBeShown (shown_labels s (variable_names vs) name fs)
  labels_shown name vs [] k h i n = tt
  labels_shown name vs (f ∷ fs) k h i n =
      joined_shown (attribute name (shown_label s (variable_names vs) f)) (shown_labels s (variable_names vs) name fs)
      (attribute_shown name (shown_label s (variable_names vs) f) k (n.0.name, (term_shown vs Refused f.term Truth h i.0 n.0.term, tt))) (labels_shown name vs fs k h i.1 n.1)

  -- SYSTEMS

  subsystems_shown : (systems vars : List (List ℕ)) (bs : List Subsystem) → AreSpellable systems → AreSpellable vars → AllByRecursion (λ (b : Subsystem). IsSpellable b.name) bs
      → AllCanBeShown (shown_subsystems systems vars bs)
  subsystems_shown systems vars [] h g n = tt
  subsystems_shown systems vars (b ∷ bs) h g n =
      joined_shown (attribute (codes "subsys") (shown_subsystem systems vars b)) (shown_subsystems systems vars bs)
      (attribute_shown (codes "subsys") (shown_subsystem systems vars b) refl
      (names_shown b.name (name_at systems b.system ∷ names_of vars b.actuals) n.0 (name_spellable systems b.system h, numbered_spellable vars b.actuals g))) (subsystems_shown systems vars bs h g n.1)

  system_shown : (ss : List PlainSystem) (systems : List (List ℕ)) (x : PlainSystem) → AreSpellable systems → IsValidSystem s ss x → IsSpellableSystem x → CanBeShown (shown_system s systems x)
  system_shown ss systems x h w n =
      let vs = variables_in x in
      let vars = variable_names vs in
      let all = three_lists x.inputs x.outputs x.locals n.inputs n.outputs n.locals in
      command_shown (codes "define-system") x.name
      (joined (shown_lists s x.inputs x.outputs x.locals) (joined (shown_formulas s vars x.init x.trans x.inv) (shown_subsystems systems vars x.subsystems))) refl n.name
      (joined_shown (shown_lists s x.inputs x.outputs x.locals) (joined (shown_formulas s vars x.init x.trans x.inv) (shown_subsystems systems vars x.subsystems))
      (lists_shown x.inputs x.outputs x.locals w.variables.sorts n.inputs n.outputs n.locals)
      (joined_shown (shown_formulas s vars x.init x.trans x.inv) (shown_subsystems systems vars x.subsystems) (formulas_shown vs x all w.init w.trans w.inv n)
      (subsystems_shown systems vars x.subsystems h (variables_spellable vs all) n.subsystems)))

  systems_shown : (ss : List PlainSystem) (systems : List (List ℕ)) (xs : List PlainSystem) → AreSpellable systems → AllByRecursion (IsValidSystem s ss) xs → AllByRecursion IsSpellableSystem xs
      → AllCanBeShown (shown_systems s systems xs)
  systems_shown ss systems [] h w n = tt
  systems_shown ss systems (x ∷ xs) h w n = (system_shown ss systems x h w.0 n.0, systems_shown ss systems xs h w.1 n.1)

  -- CHECKS

  formula_names_spellable : (fs : List PlainFormula) → AllByRecursion IsSpellableFormula fs → AreSpellable (formula_names fs)
  formula_names_spellable fs n =
      all_map (λ (f : PlainFormula). f.name) IsSpellable fs (all_of IsSpellableFormula (λ (f : PlainFormula). IsSpellable f.name) fs (λ f h. h.name) n)

  queries_shown : (xs ys zs : List (List ℕ)) (qs : List Query) → AreSpellable xs → AreSpellable ys → AreSpellable zs → AllByRecursion (λ (q : Query). IsSpellable q.name) qs → AllCanBeShown (shown_queries xs ys zs qs)
  queries_shown xs ys zs [] a c r n = tt
  queries_shown xs ys zs (q ∷ qs) a c r n =
      joined_shown (attribute (codes "query") (shown_names q.name (query_names xs ys zs q))) (shown_queries xs ys zs qs)
      (attribute_shown (codes "query") (shown_names q.name (query_names xs ys zs q)) refl (names_shown q.name (query_names xs ys zs q) n.0 all)) (queries_shown xs ys zs qs a c r n.1)
    where
      all : AreSpellable (query_names xs ys zs q)
      all =
          all_append IsSpellable (names_of xs q.assumptions) (names_of ys q.currents ++ names_of zs q.reachables) (numbered_spellable xs q.assumptions a)
          (all_append IsSpellable (names_of ys q.currents) (names_of zs q.reachables) (numbered_spellable ys q.currents c) (numbered_spellable zs q.reachables r))

  conditions_shown : (vs : List Variable) (c : PlainCheck) → VariablesAreSpellable vs → AreFormulas s vs c.assumptions → AreFormulas s vs c.currents → AreFormulas s vs c.reachables → IsSpellableCheck c
      → AllCanBeShown (shown_conditions s (variable_names vs) c)
  unfolding shown_conditions
  conditions_shown vs c h a k r n =
      let vars = variable_names vs in
      let assumptions = shown_labels s vars (codes "assumption") c.assumptions in
      let currents = shown_labels s vars (codes "current") c.currents in
      let reachables = shown_labels s vars (codes "reachable") c.reachables in
      joined_shown assumptions (joined currents (joined reachables (all_queries c))) (labels_shown (codes "assumption") vs c.assumptions refl h a n.assumptions)
      (joined_shown currents (joined reachables (all_queries c)) (labels_shown (codes "current") vs c.currents refl h k n.currents)
      (joined_shown reachables (all_queries c) (labels_shown (codes "reachable") vs c.reachables refl h r n.reachables)
      (queries_shown (formula_names c.assumptions) (formula_names c.currents) (formula_names c.reachables) c.queries (formula_names_spellable c.assumptions n.assumptions) (formula_names_spellable c.currents n.currents)
      (formula_names_spellable c.reachables n.reachables) n.queries)))

  check_shown : (ss : List PlainSystem) (systems : List (List ℕ)) (c : PlainCheck) → AreSpellable systems → IsValidCheck s ss c → IsSpellableCheck c → CanBeShown (shown_check s systems c)
  check_shown ss systems c h w n =
      let vs = check_variables c in
      let all = three_lists c.inputs c.outputs c.locals n.inputs n.outputs n.locals in
      command_shown (codes "check-system") (name_at systems c.system) (joined (shown_lists s c.inputs c.outputs c.locals) (shown_conditions s (variable_names vs) c)) refl (name_spellable systems c.system h)
      (joined_shown (shown_lists s c.inputs c.outputs c.locals) (shown_conditions s (variable_names vs) c) (lists_shown c.inputs c.outputs c.locals w.variables.sorts n.inputs n.outputs n.locals)
      (conditions_shown vs c all w.formulas.assumptions w.formulas.currents w.formulas.reachables n))

-- SCRIPTS

system_names_spellable : (xs : List PlainSystem) → AllByRecursion IsSpellableSystem xs → AreSpellable (print.system_names xs)
system_names_spellable xs n =
    all_map (λ (x : PlainSystem). x.name) IsSpellable xs (all_of IsSpellableSystem (λ (x : PlainSystem). IsSpellable x.name) xs (λ x h. h.name) n)

function_names_spellable : (fs : List PlainFunction) → AreSpellable (map (λ (f : PlainFunction). f.name) fs) → AllByRecursion (λ (f : PlainFunction). IsSpellable f.name) fs
function_names_spellable [] n = tt
function_names_spellable (f ∷ fs) n = (n.0, function_names_spellable fs n.1)

pub script_shown : TermsCanBeShown → SortsCanBeShown → SortsStand → TermsStandOn → (p : PlainScript) → IsValid p → HasSpellableNames p → AllCanBeShown (shown_script p)
script_shown terms sorts stand on p w n =
    let s = p.scope in
    let systems = print.system_names p.systems in
    let scope = n.scope.scope in
    let named = has_sort_names s w.scope in
    let names = system_names_spellable p.systems n.systems in
    let check = shown (shown_check s systems p.check) no_showns in
    let behind_functions = joined (shown_systems s systems p.systems) check in
    let behind_sorts = joined (shown_functions s s.functions) behind_functions in
    let behind_enumerations = joined (shown_sorts s s.sorts) behind_sorts in
    let behind_logic = joined (shown_enumerations s.enumerations) behind_enumerations in
    joined_shown (shown_logic p.logic) behind_logic (logic_shown p.logic n.logic)
    (joined_shown (shown_enumerations s.enumerations) behind_enumerations (enumerations_shown s.enumerations scope.enumerations scope.constants)
    (joined_shown (shown_sorts s s.sorts) behind_sorts (sorts_shown terms sorts stand s scope named s.sorts w.scope.scope.sorts n.scope.sorts)
    (joined_shown (shown_functions s s.functions) behind_functions
    (functions_shown terms sorts stand s scope named s.functions (functions_stand on s w.scope) (function_names_spellable s.functions scope.functions) n.scope.functions)
    (joined_shown (shown_systems s systems p.systems) check (systems_shown terms sorts stand s scope named p.systems systems p.systems names w.systems.systems n.systems)
    (check_shown terms sorts stand s scope named p.systems systems p.check names w.check n.check, tt)))))

-- When a script is valid: names differ and mean one thing, terms have their sorts and can appear in their places, numbers are in
-- range, and no system contains itself (MoXI, SPIN 2024).
use Rattle.std.specs.Prelude.{◌≡◌, ℕ, ◌+◌, ◌<◌, Bool, true, false, ◌||◌, Some, List, [], ◌∷◌, ◌++◌, map, take, length, slice_get, codes}
use Rattle.std.specs.List.{AllByRecursion}
use Rattle.std.specs.Str.{bytes_eq}
use Rattle.digraph.specs.Graph.{NeverReturns, NodeLists}
use Rattle.moxi_terms.specs.declared.data.Primes.{Primes}
use Rattle.moxi_terms.specs.declared.data.Primes.TheVariants.{Allowed, Refused}
use Rattle.moxi_terms.specs.declared.data.Sort.TheVariants.{Truth}
use Rattle.moxi_terms.specs.declared.term.Variable.{Variable}
use Rattle.moxi_term_reading.specs.Answer.{locals_of}
use Rattle.moxi_terms.specs.Names.{all_constants, enumeration_names, function_names, is_term_name, sort_names}
use Rattle.name_maps.specs.Names.{are_fresh}
use Rattle.moxi_term_reading.specs.Reading.{Context}
use Rattle.moxi_terms.specs.Sorted.{AreSorts, IsScope}
use Rattle.moxi_terms.specs.Tree.{PlainFunction, Tree, sorts_of}
use Rattle.moxi_terms.specs.View.{ScopeState}
use Rattle.moxi_terms.specs.Words.{is_operator}
use Rattle.moxi_term_print.specs.WellScoped.{IsWellScoped}
use Rattle.moxi_term_print.specs.Terms.{variable_names}
use Rattle.moxi_scripts.specs.declared.script.Query.{Query}
use Rattle.moxi_scripts.specs.declared.script.Subsystem.{Subsystem}
use Rattle.moxi_scripts.specs.Cycles.{nodes_from}
use Rattle.moxi_scripts.specs.QueryReading.{some_distinct}
use Rattle.moxi_scripts.specs.Script.{PlainCheck, PlainFormula, PlainScript, PlainSystem, system_at, variables_in}

-- NAMES

-- the names of sorts that no script declares
abbrev pub is_fixed_sort : List ℕ → Bool
is_fixed_sort name = bytes_eq name (codes "Bool") || bytes_eq name (codes "BitVec")

-- the names of terms that no script declares
abbrev pub is_fixed_term : List ℕ → Bool
is_fixed_term name = is_operator name || (bytes_eq name (codes "true") || bytes_eq name (codes "false"))

-- names that differ, none of which is fixed
pub record AreNames (is_fixed : List ℕ → Bool) (names : List (List ℕ)) : Type 0 where
  pub differ : are_fresh [] names ≡ true
  pub free : AllByRecursion (λ (name : List ℕ). is_fixed name ≡ false) names

-- VARIABLES AND TERMS

-- Variables with names of their own, none of which is that of a constant or a function, and with sorts of the scope.
pub record AreVariables (s : ScopeState) (vs : List Variable) : Type 0 where
  pub names : AreNames (is_term_name s) (variable_names vs)
  pub sorts : AreSorts s.enumerations (sorts_of vs)

abbrev pub over : ScopeState → List Variable → Primes → Context
over s vs primes = record { scope = s; variables = locals_of vs; primes = primes }

-- a term of truth values that can stand over these variables
abbrev pub IsFormula : ScopeState → List Variable → Primes → Tree → Type 0
IsFormula s vs primes t = IsWellScoped (over s vs primes) [] t Truth

-- THE SCOPE

-- what is before the function of this number
abbrev pub before : ScopeState → ℕ → ScopeState
before s n = record s { functions = take n s.functions }

-- the function of this number: its body can stand over its parameters and the functions before it
pub record IsValidFunction (s : ScopeState) (n : ℕ) (f : PlainFunction) : Type 0 where
  pub parameters : AreVariables s f.parameters
  pub body : IsWellScoped (over (before s n) f.parameters Refused) [] f.body f.result

pub record IsValidScope (s : ScopeState) : Type 0 where
  pub scope : IsScope s
  pub sorts : AreNames is_fixed_sort (enumeration_names s ++ sort_names s)
  pub terms : AreNames is_fixed_term (all_constants s.enumerations ++ function_names s)
  pub functions : (n : ℕ) (f : PlainFunction) → slice_get s.functions n ≡ Some f → IsValidFunction s n f

-- SYSTEMS

-- the actuals are variables, one of the sort of each input and then of each output of the subsystem's system
pub record IsValidSubsystem (ss : List PlainSystem) (vs : List Variable) (b : Subsystem) : Type 0 where
  pub there : b.system < length ss
  pub actuals : map (slice_get (sorts_of vs)) b.actuals ≡ map Some (sorts_of ((system_at ss b.system).inputs ++ (system_at ss b.system).outputs))

abbrev pub subsystem_names : List Subsystem → List (List ℕ)
subsystem_names bs = map (λ (b : Subsystem). b.name) bs

pub record IsValidSystem (s : ScopeState) (ss : List PlainSystem) (x : PlainSystem) : Type 0 where
  pub variables : AreVariables s (variables_in x)
  pub init : IsFormula s (variables_in x) Refused x.init
  pub trans : IsFormula s (variables_in x) Allowed x.trans
  pub inv : IsFormula s (variables_in x) Refused x.inv
  pub names : are_fresh [] (subsystem_names x.subsystems) ≡ true
  pub subsystems : AllByRecursion (IsValidSubsystem ss (variables_in x)) x.subsystems

-- The nodes of a graph are all subsystems, in the order in which they stand, and behind them all systems. A subsystem leads to its
-- system, and a system to its subsystems.
abbrev pub count_subsystems : List PlainSystem → ℕ
count_subsystems [] = 0
count_subsystems (x ∷ xs) = length x.subsystems + count_subsystems xs

abbrev pub subsystem_rows : ℕ → List Subsystem → NodeLists
subsystem_rows start [] = []
subsystem_rows start (b ∷ bs) = ((start + b.system) ∷ []) ∷ subsystem_rows start bs

abbrev pub all_subsystem_rows : ℕ → List PlainSystem → NodeLists
all_subsystem_rows start [] = []
all_subsystem_rows start (x ∷ xs) = subsystem_rows start x.subsystems ++ all_subsystem_rows start xs

abbrev pub containing_rows : ℕ → List PlainSystem → NodeLists
containing_rows start [] = []
containing_rows start (x ∷ xs) = nodes_from start (length x.subsystems) ∷ containing_rows (start + length x.subsystems) xs

abbrev pub subsystem_graph : List PlainSystem → NodeLists
subsystem_graph ss = all_subsystem_rows (count_subsystems ss) ss ++ containing_rows 0 ss

-- no system contains itself, directly or through further subsystems
abbrev pub NoneContainsItself : List PlainSystem → Type 0
NoneContainsItself ss = NeverReturns (subsystem_graph ss)

-- a rank of each system, above the ranks of those that it contains
pub record HasRanks (ss : List PlainSystem) : Type 0 where
  pub rank : ℕ → ℕ
  pub falls : (i : ℕ) (x : PlainSystem) → slice_get ss i ≡ Some x → AllByRecursion (λ (b : Subsystem). rank b.system < rank i) x.subsystems

abbrev pub system_names : List PlainSystem → List (List ℕ)
system_names ss = map (λ (x : PlainSystem). x.name) ss

pub record AreValidSystems (s : ScopeState) (ss : List PlainSystem) : Type 0 where
  pub names : are_fresh [] (system_names ss) ≡ true
  pub systems : AllByRecursion (IsValidSystem s ss) ss
  pub acyclic : NoneContainsItself ss

-- THE CHECK

abbrev pub check_variables : PlainCheck → List Variable
check_variables c = c.inputs ++ (c.outputs ++ c.locals)

-- the lists have the sorts of the system's lists
pub record FitsSystem (x : PlainSystem) (c : PlainCheck) : Type 0 where
  pub inputs : sorts_of c.inputs ≡ sorts_of x.inputs
  pub outputs : sorts_of c.outputs ≡ sorts_of x.outputs
  pub locals : sorts_of c.locals ≡ sorts_of x.locals

abbrev pub formula_names : List PlainFormula → List (List ℕ)
formula_names fs = map (λ (f : PlainFormula). f.name) fs

abbrev pub AreFormulas : ScopeState → List Variable → List PlainFormula → Type 0
AreFormulas s vs fs = AllByRecursion (λ (f : PlainFormula). IsFormula s vs Refused f.term) fs

-- the formulas of a check; their names are one kind
pub record HasFormulas (s : ScopeState) (c : PlainCheck) : Type 0 where
  pub names : are_fresh [] (formula_names c.assumptions ++ (formula_names c.currents ++ formula_names c.reachables)) ≡ true
  pub assumptions : AreFormulas s (check_variables c) c.assumptions
  pub currents : AreFormulas s (check_variables c) c.currents
  pub reachables : AreFormulas s (check_variables c) c.reachables

-- each number is that of a formula; there are one or more of reachable formulas, none of them twice
pub record IsValidQuery (assumptions currents reachables : ℕ) (q : Query) : Type 0 where
  pub assumptions_there : AllByRecursion (λ (i : ℕ). i < assumptions) q.assumptions
  pub currents_there : AllByRecursion (λ (i : ℕ). i < currents) q.currents
  pub reachables_there : AllByRecursion (λ (i : ℕ). i < reachables) q.reachables
  pub reachables_differ : some_distinct q.reachables ≡ true

abbrev pub query_names : List Query → List (List ℕ)
query_names qs = map (λ (q : Query). q.name) qs

pub record HasQueries (c : PlainCheck) : Type 0 where
  pub names : are_fresh [] (query_names c.queries) ≡ true
  pub queries : AllByRecursion (IsValidQuery (length c.assumptions) (length c.currents) (length c.reachables)) c.queries

pub record IsValidCheck (s : ScopeState) (ss : List PlainSystem) (c : PlainCheck) : Type 0 where
  pub there : c.system < length ss
  pub fits : FitsSystem (system_at ss c.system) c
  pub variables : AreVariables s (check_variables c)
  pub formulas : HasFormulas s c
  pub queries : HasQueries c

-- THE SCRIPT

pub record IsValid (s : PlainScript) : Type 0 where
  pub scope : IsValidScope s.scope
  pub systems : AreValidSystems s.scope s.systems
  pub check : IsValidCheck s.scope s.systems s.check

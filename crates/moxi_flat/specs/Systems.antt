-- The size, the height and the nesting of the system that a script's check instantiates (systems as in MoXI, SPIN 2024; the measures
-- are this translator's own). A bound tells how deep subsystems nest at most: since no system contains itself, the number of systems
-- is enough.
use Rattle.std.specs.Prelude.{ℕ, zero, suc, ◌+◌, max, if◌then◌else◌, nat_eq, List, [], ◌∷◌, length, flat_map, sum_by}
use Rattle.std.specs.List.{list_any}
use Rattle.moxi_scripts.specs.declared.script.Subsystem.{Subsystem}
use Rattle.moxi_scripts.specs.declared.script.Query.{Query}
use Rattle.moxi_scripts.specs.Script.{PlainSystem, PlainFormula, PlainCheck, PlainScript, system_at, formula_at}
use Rattle.moxi_flat.specs.Terms.{term_size, term_height, call_sizes, call_heights}

-- the greatest of what the elements of a list have
abbrev pub greatest_by {ℓ} : {X : Type ℓ} → (X → ℕ) → List X → ℕ
greatest_by f [] = 0
greatest_by f (x ∷ xs) = max (f x) (greatest_by f xs)

-- ---- instances of systems, given the sizes or heights of the functions' bodies

-- An instance counts once, with its three formulas and its locals, since its inputs and outputs are variables of the system around it;
-- and with it all instances inside.
abbrev pub instance_size : (ℕ → ℕ) → List PlainSystem → ℕ → ℕ → ℕ
instance_size calls ss zero i = 0
instance_size calls ss (suc n) i =
    let s = system_at ss i in
    1 + (term_size calls s.init + (term_size calls s.trans + (term_size calls s.inv + (length s.locals + sum_by (λ (b : Subsystem). instance_size calls ss n b.system) s.subsystems))))

-- the highest formula of an instance and of all instances inside
abbrev pub instance_height : (ℕ → ℕ) → List PlainSystem → ℕ → ℕ → ℕ
instance_height calls ss zero i = 0
instance_height calls ss (suc n) i =
    let s = system_at ss i in
    max (term_height calls s.init) (max (term_height calls s.trans) (max (term_height calls s.inv) (greatest_by (λ (b : Subsystem). instance_height calls ss n b.system) s.subsystems)))

-- how many systems stand inside one another
abbrev pub nesting_upto : List PlainSystem → ℕ → ℕ → ℕ
nesting_upto ss zero i = 0
nesting_upto ss (suc n) i = 1 + greatest_by (λ (b : Subsystem). nesting_upto ss n b.system) (system_at ss i).subsystems

-- ---- checks

-- the formulas whose numbers, from k on, are not among these
abbrev pub unnamed_size : (ℕ → ℕ) → List ℕ → ℕ → List PlainFormula → ℕ
unnamed_size calls named k [] = 0
unnamed_size calls named k (f ∷ fs) = (if list_any (nat_eq k) named then 0 else term_size calls f.term) + unnamed_size calls named (k + 1) fs

abbrev pub named_size : (ℕ → ℕ) → List PlainFormula → List ℕ → ℕ
named_size calls fs named = sum_by (λ k. term_size calls (formula_at fs k)) named

-- a query counts once, with each formula that it names
abbrev pub query_size : (ℕ → ℕ) → PlainCheck → Query → ℕ
query_size calls c q =
    1 + (named_size calls c.assumptions q.assumptions + (named_size calls c.currents q.currents + named_size calls c.reachables q.reachables))

-- the queries, and the formulas that none of them names
abbrev pub check_size : (ℕ → ℕ) → PlainCheck → ℕ
check_size calls c =
    sum_by (query_size calls c) c.queries
    + (unnamed_size calls (flat_map (λ (q : Query). q.assumptions) c.queries) 0 c.assumptions
    + (unnamed_size calls (flat_map (λ (q : Query). q.currents) c.queries) 0 c.currents
    + unnamed_size calls (flat_map (λ (q : Query). q.reachables) c.queries) 0 c.reachables))

abbrev pub formulas_height : (ℕ → ℕ) → List PlainFormula → ℕ
formulas_height calls fs = greatest_by (λ (f : PlainFormula). term_height calls f.term) fs

abbrev pub check_height : (ℕ → ℕ) → PlainCheck → ℕ
check_height calls c = max (formulas_height calls c.assumptions) (max (formulas_height calls c.currents) (formulas_height calls c.reachables))

-- ---- scripts

-- the variables are those of the checked system, and the locals of all instances inside
abbrev pub script_size : PlainScript → ℕ
script_size p =
    (length p.check.inputs + length p.check.outputs)
    + (instance_size (call_sizes p.scope) p.systems (length p.systems) p.check.system + check_size (call_sizes p.scope) p.check)

abbrev pub script_height : PlainScript → ℕ
script_height p = max (instance_height (call_heights p.scope) p.systems (length p.systems) p.check.system) (check_height (call_heights p.scope) p.check)

abbrev pub script_nesting : PlainScript → ℕ
script_nesting p = nesting_upto p.systems (length p.systems) p.check.system

-- What is counted of the formulas and queries of a check, given what was counted of each formula.
use Rattle.std.specs.Prelude.{◌≡◌, ℕ, ◌+◌, ◌<◌, nat_eq, Bool, false, if◌then◌else◌, List, [], ◌∷◌, ◌++◌, length, slice_index_or}
use Rattle.std.specs.List.{list_any}
use Rattle.moxi_scripts.specs.declared.script.Query.{Query}
use Rattle.moxi_instantiate.specs.declared.checks.FormulaKind.{FormulaKind}
use Rattle.moxi_instantiate.specs.declared.checks.FormulaKind.TheVariants.{Assumption, Current, Reachable}

-- the numbers of formulas of a kind that a query names, and that all queries name
abbrev pub numbers_of : FormulaKind → Query → List ℕ
numbers_of Assumption q = q.assumptions
numbers_of Current q = q.currents
numbers_of Reachable q = q.reachables

abbrev pub all_numbers : FormulaKind → List Query → List ℕ
all_numbers kind [] = []
all_numbers kind (q ∷ qs) = numbers_of kind q ++ all_numbers kind qs

-- a mark tells whether its number is among these
abbrev pub AreMarked : List Bool → List ℕ → Type 0
AreMarked marks named = (k : ℕ) → k < length marks → slice_index_or marks k false ≡ list_any (nat_eq k) named

-- the size of the formula of this number; where none is, a constant stands
abbrev pub size_at : List ℕ → ℕ → ℕ
size_at counts k = slice_index_or counts k 1

abbrev pub named_sum : List ℕ → List ℕ → ℕ
named_sum counts [] = 0
named_sum counts (k ∷ ks) = size_at counts k + named_sum counts ks

-- of the formulas, numbered from k, that aren't named
abbrev pub unnamed_sum : List ℕ → ℕ → List ℕ → ℕ
unnamed_sum named k [] = 0
unnamed_sum named k (c ∷ cs) = (if list_any (nat_eq k) named then 0 else c) + unnamed_sum named (k + 1) cs

abbrev pub query_sum : List ℕ → List ℕ → List ℕ → Query → ℕ
query_sum assumptions currents reachables q = 1 + (named_sum assumptions q.assumptions + (named_sum currents q.currents + named_sum reachables q.reachables))

abbrev pub queries_sum : List ℕ → List ℕ → List ℕ → List Query → ℕ
queries_sum assumptions currents reachables [] = 0
queries_sum assumptions currents reachables (q ∷ qs) = query_sum assumptions currents reachables q + queries_sum assumptions currents reachables qs

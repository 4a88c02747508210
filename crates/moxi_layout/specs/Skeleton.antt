-- The order of the lines that lay a flat system out: its inputs, states, inits, nexts, constraints and bad lines, with their widths and
-- symbols (BTOR2, CAV 2018, figure 1). Between them stand sorts, constants and operators, of which nothing is said.
use Rattle.std.specs.Prelude.{◌==◌, ◌^◌, ℕ, Bool, true, false, not, if◌then◌else◌, Option, Some, None, List, [], ◌∷◌, ◌++◌, map, flat_map, codes}
use Rattle.btor_tree.specs.declared.lines.Line.{Line}
use Rattle.btor_tree.specs.declared.lines.LineOp.{LineOp}
use Rattle.btor_tree.specs.declared.lines.LineOp.TheVariants as line
use Rattle.btor_tree.specs.Fits.{sort_at}
use Rattle.moxi_terms.specs.declared.data.Sort.{Sort}
use Rattle.moxi_terms.specs.declared.data.Sort.TheVariants.{Choice}
use Rattle.moxi_terms.specs.declared.term.Enumeration.{Enumeration}
use Rattle.moxi_terms.specs.declared.term.Variable.{Variable}
use Rattle.moxi_terms.specs.Tree.{Tree}
use Rattle.moxi_terms.specs.Names.{constant_count}
use Rattle.moxi_scripts.specs.declared.script.Query.{Query}
use Rattle.moxi_flat.specs.FlatSystem.{PlainFlatSystem, PlainPart}
use Rattle.moxi_lines.specs.Codes.{choice_width, sort_bits}
use Rattle.moxi_lines.specs.Lines.{formula_name, has_conditions, is_true_term, symbol_of}

-- ---- of lines

-- the kinds of lines whose order is told
abbrev pub is_ordered : LineOp → Bool
is_ordered line.Input = true
is_ordered line.State = true
is_ordered line.Init = true
is_ordered line.Next = true
is_ordered line.Constraint = true
is_ordered line.Bad = true
is_ordered o = false

-- a line's kind, the width of its sort, and its symbol
pub record Entry : Type 0 where
  pub kind : LineOp
  pub width : ℕ
  pub symbol : Option (List ℕ)

-- constraints and bad lines have no sort
abbrev pub entry_width : List Line → LineOp → ℕ → ℕ
entry_width lines line.Constraint s = 0
entry_width lines line.Bad s = 0
entry_width lines o s = sort_at lines s

abbrev pub entry_of : List Line → Line → Entry
entry_of lines l = record { kind = l.op; width = entry_width lines l.op l.sort; symbol = l.symbol }

-- those of these lines that are of such kinds, in order; their sorts are found in `lines`
abbrev pub entries_in : List Line → List Line → List Entry
entries_in lines [] = []
entries_in lines (l ∷ ls) = if is_ordered l.op then (entry_of lines l ∷ entries_in lines ls) else entries_in lines ls

abbrev pub skeleton : List Line → List Entry
skeleton lines = entries_in lines lines

-- ---- of a system

abbrev pub entry : LineOp → ℕ → Option (List ℕ) → Entry
entry kind width symbol = record { kind = kind; width = width; symbol = symbol }

-- the state that is one in frame 0 alone
abbrev pub head_entries : List Entry
head_entries = entry line.State 1 (Some (codes "first")) ∷ entry line.Init 1 None ∷ entry line.Next 1 None ∷ []

abbrev pub constraint_if : Bool → List Entry
constraint_if b = if b then (entry line.Constraint 0 None ∷ []) else []

-- are there words of the sort's width that are no constant's?
abbrev pub has_gap : List Enumeration → Sort → Bool
has_gap es (Choice n) = not (constant_count es n == 2 ^ choice_width (constant_count es n))
has_gap es s = false

-- the input, the state of the step before with its next, and the constraint that the code is that of a constant
abbrev pub variable_entries : List Enumeration → Variable → List Entry
variable_entries es v =
    entry line.Input (sort_bits es v.sort) (symbol_of v.name) ∷ entry line.State (sort_bits es v.sort) (symbol_of (v.name ++ codes ".prev"))
    ∷ entry line.Next (sort_bits es v.sort) None ∷ constraint_if (has_gap es v.sort)

-- a formula that is the term `true` has no constraint
abbrev pub formula_entries : Tree → List Entry
formula_entries t = constraint_if (not (is_true_term t))

abbrev pub part_entries : PlainPart → List Entry
part_entries p = formula_entries p.init ++ (formula_entries p.trans ++ formula_entries p.inv)

-- a query with one reachable formula has no latch for it
abbrev pub has_several : List ℕ → Bool
has_several (r ∷ s ∷ rs) = true
has_several rs = false

-- the latch that tells whether the conditions have held so far, where there are any
abbrev pub condition_latches : Query → List (List ℕ)
condition_latches q = if has_conditions q.assumptions q.currents then ((q.name ++ codes ".ok") ∷ []) else []

-- the latches that tell of each of several formulas whether it was reached before
abbrev pub reachable_latches : PlainFlatSystem → Query → List (List ℕ)
reachable_latches f q =
    if has_several q.reachables then map (λ r. q.name ++ (codes "." ++ (formula_name f.reachables r ++ codes ".seen"))) q.reachables else []

-- the names of a query's latches
abbrev pub latch_names : PlainFlatSystem → Query → List (List ℕ)
latch_names f q = condition_latches q ++ reachable_latches f q

abbrev pub latch_entries : List ℕ → List Entry
latch_entries name = entry line.State 1 (symbol_of name) ∷ entry line.Init 1 None ∷ entry line.Next 1 None ∷ []

abbrev pub query_entries : PlainFlatSystem → Query → List Entry
query_entries f q = flat_map latch_entries (latch_names f q) ++ entry line.Bad 0 (symbol_of q.name) ∷ []

-- the head, the variables, the formulas of the parts, and the queries
abbrev pub skeleton_of : PlainFlatSystem → List Entry
skeleton_of f =
    head_entries ++ (flat_map (variable_entries f.scope.enumerations) f.variables ++ (flat_map part_entries f.parts ++ flat_map (query_entries f) f.queries))

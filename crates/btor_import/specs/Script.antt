-- The script of MoXI that stands for BTOR2 lines (MoXI, SPIN 2024; BTOR2, CAV 2018): one system whose traces are the runs of
-- frames, and a query for each bad line. The names and the order are this translator's own.
use Rattle.std.specs.Prelude.{ℕ, ◌+◌, Bool, true, false, if◌then◌else◌, List, [], ◌∷◌, ◌++◌, map, take, slice_get, codes, decimal, Option, Some, None}
use Rattle.std.specs.List.{filter}
use Rattle.btor_tree.specs.declared.args.Arg.{Arg}
use Rattle.btor_tree.specs.declared.lines.Line.{Line}
use Rattle.btor_tree.specs.declared.lines.LineOp.{LineOp}
use Rattle.btor_tree.specs.declared.lines.LineOp.TheVariants.{Input, State}
use Rattle.btor_tree.specs.Fits.{has_word, is_input, is_state, is_init, is_next, is_bad, is_constraint, count_of, sort_at, width_at}
use Rattle.moxi_terms.specs.declared.data.Datum.TheVariants as datum
use Rattle.moxi_terms.specs.declared.data.Sort.TheVariants.{Bits}
use Rattle.moxi_terms.specs.declared.data.TermOp.TheVariants as op
use Rattle.moxi_terms.specs.declared.term.Variable.{Variable}
use Rattle.moxi_terms.specs.Names.{no_scope}
use Rattle.moxi_terms.specs.Tree.{Tree, constant, variable}
use Rattle.moxi_scripts.specs.declared.script.Query.{Query}
use Rattle.moxi_scripts.specs.Script.{PlainSystem, PlainFormula, PlainCheck, PlainScript, query_of}
use Rattle.btor_import.specs.Operators.{argument, is_one, line_term, operand_term}
use Rattle.moxi_terms.specs.Applications.{equal_term, all_term}

-- ---- variables: of input lines, then of state lines, then of constant and operator lines, each in the order of the lines

abbrev pub is_local : LineOp → Bool
is_local Input = false
is_local State = false
is_local o = has_word o

abbrev pub lines_in : (LineOp → Bool) → List Line → List Line
lines_in kind lines = filter (λ l. kind l.op) lines

-- a letter with a dot, and the line's id
abbrev pub variable_of : List Line → List ℕ → Line → Variable
variable_of lines letter l = record { name = letter ++ decimal l.id; sort = Bits (sort_at lines l.sort) }

abbrev pub variables_in : List ℕ → (LineOp → Bool) → List Line → List Variable
variables_in letter kind lines = map (variable_of lines letter) (lines_in kind lines)

-- the number of a line's variable, given the lines before it
abbrev pub number_among : List Line → List Line → Option Line → ℕ
number_among lines before None = 0
number_among lines before (Some l) =
    if is_input l.op then count_of is_input before
    else (if is_state l.op then count_of is_input lines + count_of is_state before
    else (count_of is_input lines + count_of is_state lines + count_of is_local before))

-- the number of the variable of the line at a place
abbrev pub number_of : List Line → ℕ → ℕ
number_of lines i = number_among lines (take i lines) (slice_get lines i)

-- ---- formulas: the parts that lines give, in their order

-- A state line, which is primed in transitions, has a value. Here and below the number of each line's variable is given.
abbrev pub value_part : (ℕ → ℕ) → Bool → List Arg → Tree
value_part number primed args = equal_term (variable (number (argument args 0).line) primed) (operand_term number (argument args 1))

abbrev pub init_part : (ℕ → ℕ) → ℕ → Line → List Tree
init_part number i l = if is_init l.op then value_part number false l.args ∷ [] else []

abbrev pub trans_part : (ℕ → ℕ) → ℕ → Line → List Tree
trans_part number i l = if is_next l.op then value_part number true l.args ∷ [] else []

-- the constant or operator line at place i has its value
abbrev pub equation_term : (ℕ → ℕ) → List Line → ℕ → Line → Tree
equation_term number lines i l = equal_term (variable (number i) false) (line_term number (width_at lines) (sort_at lines l.sort) l.op l.args)

-- a constant or an operator has its value, and a constraint is true
abbrev pub inv_part : List Line → (ℕ → ℕ) → ℕ → Line → List Tree
inv_part lines number i l =
    if is_local l.op then equation_term number lines i l ∷ []
    else (if is_constraint l.op then is_one (operand_term number (argument l.args 0)) ∷ [] else [])

-- the parts of lines, of which the first is at place i
abbrev pub parts_from : (ℕ → Line → List Tree) → ℕ → List Line → List Tree
parts_from part i [] = []
parts_from part i (l ∷ ls) = part i l ++ parts_from part (i + 1) ls

abbrev pub formula_of : (ℕ → Line → List Tree) → List Line → Tree
formula_of part lines = all_term (parts_from part 0 lines)

-- ---- the script

abbrev pub system_of : List Line → PlainSystem
system_of lines = record {
  name = codes "main";
  inputs = variables_in (codes "i.") is_input lines;
  outputs = variables_in (codes "s.") is_state lines;
  locals = variables_in (codes "n.") is_local lines;
  init = formula_of (init_part (number_of lines)) lines;
  trans = formula_of (trans_part (number_of lines)) lines;
  inv = formula_of (inv_part lines (number_of lines)) lines;
  subsystems = [];
}

-- the formula that a bad line is true, and the query that asks for it, for each of the bad lines from number j on
abbrev pub reachable_of : (ℕ → ℕ) → ℕ → Line → PlainFormula
reachable_of number j l = record { name = codes "b." ++ decimal j; term = is_one (operand_term number (argument l.args 0)) }

abbrev pub reachables_from : (ℕ → ℕ) → ℕ → List Line → List PlainFormula
reachables_from number j [] = []
reachables_from number j (l ∷ ls) = reachable_of number j l ∷ reachables_from number (j + 1) ls

abbrev pub queries_from : ℕ → List Line → List Query
queries_from j [] = []
queries_from j (l ∷ ls) = query_of j ∷ queries_from (j + 1) ls

abbrev pub check_of : List Line → PlainCheck
check_of lines = record {
  place = record { line = 1; column = 1; offset = 0 };
  system = 0;
  inputs = variables_in (codes "i.") is_input lines;
  outputs = variables_in (codes "s.") is_state lines;
  locals = variables_in (codes "n.") is_local lines;
  assumptions = [];
  currents = [];
  reachables = reachables_from (number_of lines) 0 (lines_in is_bad lines);
  queries = queries_from 0 (lines_in is_bad lines);
}

-- the script that stands for lines
abbrev pub import_of : List Line → PlainScript
import_of lines = record {
  logic = Some (codes "QF_BV");
  scope = no_scope;
  systems = system_of lines ∷ [];
  check = check_of lines;
}

-- How many brackets of the printed script stand open at most.
use Rattle.std.proofs.Common.{ℕ, zero, suc, ◌+◌, ◌≤◌, Bool, true, false, ◌==◌, if◌then◌else◌, List, [], ◌∷◌, arith}
use Rattle.std.specs.Prelude.{codes}
use Rattle.std.specs.List.{AllByRecursion}
use Rattle.word_core.specs.declared.kinds.Unary.{Unary}
use Rattle.word_core.specs.declared.kinds.Unary.TheVariants as OnWord
use Rattle.word_core.specs.declared.kinds.Binary.{Binary}
use Rattle.word_core.specs.declared.kinds.Binary.TheVariants as OnWords
use Rattle.btor_tree.specs.declared.args.Arg.{Arg}
use Rattle.btor_tree.specs.declared.lines.Line.{Line}
use Rattle.btor_tree.specs.declared.lines.LineOp.{LineOp}
use Rattle.btor_tree.specs.declared.lines.LineOp.TheVariants as line
use Rattle.btor_tree.specs.Fits.{is_bad, is_constraint, is_init, is_next, sort_at, width_at}
use Rattle.moxi_terms.specs.declared.data.Sort.TheVariants as sort
use Rattle.moxi_terms.specs.declared.data.Datum.TheVariants as datum
use Rattle.moxi_terms.specs.declared.data.TermOp.TheVariants as op
use Rattle.moxi_terms.specs.Tree.{Tree, variable, apply, trees_of}
use Rattle.moxi_terms.specs.View.{ScopeState}
use Rattle.moxi_term_print.specs.Shown.{no_showns, joined, shown_depth, shown_depths}
use Rattle.moxi_term_print.specs.Terms.{variable_names}
use Rattle.moxi_scripts.specs.Script.{variables_in}
use Rattle.moxi_script_print.specs.Printing.{attribute, shown_lists, shown_formulas, shown_labels, shown_queries, shown_conditions, shown_system, shown_check, system_names}
use Rattle.btor_import.specs.Operators.{argument, binary_term, bits_from, is_one, line_term, not_term, operand_term, parity_term, unary_term}
use Rattle.btor_import.specs.Script.{check_of, equation_term, formula_of, import_of, init_part, inv_part, is_local, lines_in, number_of, parts_from, reachables_from, system_of, trans_part, value_part}
use Rattle.btor_import.proofs.Standing.{parts_all}
use Rattle.btor_import_laws.specs.Laws.{BracketsAreFew}
use Rattle.moxi_script_print.proofs.Depths.{joined_depths, lists_depth, queries_depth}
use Rattle.moxi_scripts.specs.Valid.{check_variables, formula_names}
use Rattle.moxi_terms.specs.Applications.{all_term}
use Rattle.moxi_script_print.proofs.OpenBrackets.{open_brackets, all_brackets, term_depth}

-- ---- the terms of lines

operand_low : (number : ℕ → ℕ) (a : Arg) → open_brackets (operand_term number a) ≤ 2
operand_low number a = by a.negated
  where
    by : (b : Bool) → open_brackets (if b then not_term (variable (number a.line) false) else variable (number a.line) false) ≤ 2
    by true = omega arith
    by false = omega arith

bits_low : (i n : ℕ) (a : Tree) → open_brackets a ≤ 2 → all_brackets (trees_of (bits_from i n a)) ≤ 3
bits_low i zero a h = omega arith
bits_low i (suc n) a h = let r = bits_low (i + 1) n a h in omega (arith, h, r)

parity_low : (w : ℕ) (a : Tree) → open_brackets a ≤ 2 → open_brackets (parity_term w a) ≤ 4
parity_low w a h = by (w == 1)
  where
    by : (b : Bool) → open_brackets (if b then a else apply (op.BvBinary OnWords.Xor) (trees_of (bits_from 0 w a))) ≤ 4
    by true = omega (arith, h)
    by false = let r = bits_low 0 w a h in omega (arith, r)

unary_low : (o : Unary) (w : ℕ) (a : Tree) → open_brackets a ≤ 2 → open_brackets (unary_term o w a) ≤ 4
unary_low OnWord.Not w a h = omega (arith, h)
unary_low OnWord.Neg w a h = omega (arith, h)
unary_low OnWord.Inc w a h = omega (arith, h)
unary_low OnWord.Dec w a h = omega (arith, h)
unary_low OnWord.RedAnd w a h = omega (arith, h)
unary_low OnWord.RedOr w a h = omega (arith, h)
unary_low OnWord.RedXor w a h = parity_low w a h

binary_low : (o : Binary) (a b : Tree) → open_brackets a ≤ 2 → open_brackets b ≤ 2 → open_brackets (binary_term o a b) ≤ 4
binary_low OnWords.Iff a b h k = omega (arith, h, k)
binary_low OnWords.Implies a b h k = omega (arith, h, k)
binary_low OnWords.Eq a b h k = omega (arith, h, k)
binary_low OnWords.Neq a b h k = omega (arith, h, k)
binary_low OnWords.Ult a b h k = omega (arith, h, k)
binary_low OnWords.Ulte a b h k = omega (arith, h, k)
binary_low OnWords.Ugt a b h k = omega (arith, h, k)
binary_low OnWords.Ugte a b h k = omega (arith, h, k)
binary_low OnWords.Slt a b h k = omega (arith, h, k)
binary_low OnWords.Slte a b h k = omega (arith, h, k)
binary_low OnWords.Sgt a b h k = omega (arith, h, k)
binary_low OnWords.Sgte a b h k = omega (arith, h, k)
binary_low OnWords.Nand a b h k = omega (arith, h, k)
binary_low OnWords.Nor a b h k = omega (arith, h, k)
binary_low OnWords.Xnor a b h k = omega (arith, h, k)
binary_low OnWords.Concat a b h k = omega (arith, h, k)
binary_low o a b h k = omega (arith, h, k)

line_low : (number width : ℕ → ℕ) (w : ℕ) (o : LineOp) (args : List Arg) → open_brackets (line_term number width w o args) ≤ 4
line_low number width w (line.Unary o) args = unary_low o (width (argument args 0).line) (operand_term number (argument args 0)) (operand_low number (argument args 0))
line_low number width w (line.Binary o) args =
    binary_low o (operand_term number (argument args 0)) (operand_term number (argument args 1)) (operand_low number (argument args 0)) (operand_low number (argument args 1))
line_low number width w line.Ite args =
    let a = operand_low number (argument args 0) in
    let b = operand_low number (argument args 1) in
    let c = operand_low number (argument args 2) in
    omega (arith, a, b, c)
line_low number width w (line.Slice high low) args = let a = operand_low number (argument args 0) in omega (arith, a)
line_low number width w (line.Uext n) args = let a = operand_low number (argument args 0) in omega (arith, a)
line_low number width w (line.Sext n) args = let a = operand_low number (argument args 0) in omega (arith, a)
line_low number width w o args = omega arith

-- ---- formulas

abbrev Low : List Tree → Type 0
Low ts = AllByRecursion (λ t. open_brackets t ≤ 5) ts

list_low : (ts : List Tree) → Low ts → all_brackets (trees_of ts) ≤ 5
list_low [] h = omega arith
list_low (t ∷ ts) h = let r = list_low ts h.1 in let a = h.0 in omega (arith, a, r)

all_low : (ts : List Tree) → Low ts → open_brackets (all_term ts) ≤ 6
all_low [] h = omega arith
all_low (t ∷ []) h = let a = h.0 in omega (arith, a)
all_low (t ∷ u ∷ ts) h = let r = list_low (t ∷ u ∷ ts) h in omega (arith, r)

formula_low : (part : ℕ → Line → List Tree) → ((i : ℕ) (l : Line) → Low (part i l)) → (lines : List Line) → open_brackets (formula_of part lines) ≤ 6
formula_low part f lines = all_low (parts_from part 0 lines) (parts_all (λ t. open_brackets t ≤ 5) part lines 0 (λ k l h. f (0 + k) l))

low_if : (b : Bool) (xs ys : List Tree) → Low xs → Low ys → Low (if b then xs else ys)
low_if true xs ys h k = h
low_if false xs ys h k = k

true_low : (number : ℕ → ℕ) (a : Arg) → open_brackets (is_one (operand_term number a)) ≤ 5
true_low number a = let h = operand_low number a in omega (arith, h)

value_low : (number : ℕ → ℕ) (primed : Bool) (args : List Arg) → open_brackets (value_part number primed args) ≤ 5
value_low number primed args = let h = operand_low number (argument args 1) in omega (arith, h)

init_low : (number : ℕ → ℕ) (i : ℕ) (l : Line) → Low (init_part number i l)
init_low number i l = low_if (is_init l.op) (value_part number false l.args ∷ []) [] (value_low number false l.args, tt) tt

trans_low : (number : ℕ → ℕ) (i : ℕ) (l : Line) → Low (trans_part number i l)
trans_low number i l = low_if (is_next l.op) (value_part number true l.args ∷ []) [] (value_low number true l.args, tt) tt

equation_low : (number : ℕ → ℕ) (lines : List Line) (i : ℕ) (l : Line) → open_brackets (equation_term number lines i l) ≤ 5
equation_low number lines i l = let h = line_low number (width_at lines) (sort_at lines l.sort) l.op l.args in omega (arith, h)

inv_low : (lines : List Line) (number : ℕ → ℕ) (i : ℕ) (l : Line) → Low (inv_part lines number i l)
inv_low lines number i l =
    low_if (is_local l.op) (equation_term number lines i l ∷ []) (if is_constraint l.op then is_one (operand_term number (argument l.args 0)) ∷ [] else [])
    (equation_low number lines i l, tt)
    (low_if (is_constraint l.op) (is_one (operand_term number (argument l.args 0)) ∷ []) [] (true_low number (argument l.args 0), tt) tt)

-- ---- lists of variables and names

-- ---- the system and the check

formulas_depth : (s : ScopeState) (vars : List (List ℕ)) (x y z : Tree) → open_brackets x ≤ 6 → open_brackets y ≤ 6 → open_brackets z ≤ 6 → shown_depths (shown_formulas s vars x y z) ≤ 6
unfolding shown_formulas attribute
formulas_depth s vars x y z h i j =
    let a = term_depth s vars [] x in
    let b = term_depth s vars [] y in
    let c = term_depth s vars [] z in
    omega (arith, a, b, c, h, i, j)

system_depth : (s : ScopeState) (names : List (List ℕ)) (lines : List Line) → shown_depth (shown_system s names (system_of lines)) ≤ 7
system_depth s names lines =
    let x = system_of lines in
    let vars = variable_names (variables_in x) in
    let l = lists_depth s x.inputs x.outputs x.locals in
    let f = formulas_depth s vars x.init x.trans x.inv (formula_low (init_part (number_of lines)) (init_low (number_of lines)) lines) (formula_low (trans_part (number_of lines)) (trans_low (number_of lines)) lines)
    (formula_low (inv_part lines (number_of lines)) (inv_low lines (number_of lines)) lines) in
    let a = joined_depths (shown_lists s x.inputs x.outputs x.locals) (joined (shown_formulas s vars x.init x.trans x.inv) no_showns) in
    let b = joined_depths (shown_formulas s vars x.init x.trans x.inv) no_showns in
    omega (arith, l, f, a, b)

labels_depth : (s : ScopeState) (vars : List (List ℕ)) (name : List ℕ) (number : ℕ → ℕ) (j : ℕ) (ls : List Line) → shown_depths (shown_labels s vars name (reachables_from number j ls)) ≤ 6
unfolding attribute
labels_depth s vars name number j [] = omega arith
labels_depth s vars name number j (l ∷ ls) =
    let a = term_depth s vars [] (is_one (operand_term number (argument l.args 0))) in
    let b = true_low number (argument l.args 0) in
    let r = labels_depth s vars name number (j + 1) ls in
    omega (arith, a, b, r)

conditions_depth : (s : ScopeState) (vars : List (List ℕ)) (lines : List Line) → shown_depths (shown_conditions s vars (check_of lines)) ≤ 6
unfolding shown_conditions
conditions_depth s vars lines =
    let c = check_of lines in
    let a = labels_depth s vars (codes "reachable") (number_of lines) 0 (lines_in is_bad lines) in
    let q = queries_depth [] [] (formula_names c.reachables) c.queries in
    let j = joined_depths (shown_labels s vars (codes "reachable") c.reachables) (shown_queries [] [] (formula_names c.reachables) c.queries) in
    omega (arith, a, q, j)

check_depth : (s : ScopeState) (names : List (List ℕ)) (lines : List Line) → shown_depth (shown_check s names (check_of lines)) ≤ 7
check_depth s names lines =
    let c = check_of lines in
    let l = lists_depth s c.inputs c.outputs c.locals in
    let a = conditions_depth s (variable_names (check_variables c)) lines in
    let j = joined_depths (shown_lists s c.inputs c.outputs c.locals) (shown_conditions s (variable_names (check_variables c)) c) in
    omega (arith, l, a, j)

pub brackets_are_few_law : BracketsAreFew
brackets_are_few_law lines =
    let p = import_of lines in
    let names = system_names p.systems in
    let x = system_depth p.scope names lines in
    let c = check_depth p.scope names lines in
    omega (arith, x, c)

-- The BTOR2 lines of a flat system (BTOR2, CAV 2018): the head, the variables, the formulas of each part, and the queries.
use Rattle.std.specs.Prelude.{ℕ, suc, ◌^◌, nat_le, nat_eq, Bool, true, false, not, ◌&&◌, if◌then◌else◌, Option, Some, None, List, [], ◌∷◌, ◌++◌, length, map, slice_index_or, codes}
use Rattle.word_core.specs.declared.kinds.Binary.TheVariants as two
use Rattle.btor_tree.specs.declared.lines.Line.{Line}
use Rattle.btor_tree.specs.declared.lines.LineOp.{LineOp}
use Rattle.btor_tree.specs.declared.lines.LineOp.TheVariants as line
use Rattle.btor_tree.specs.Fits.{plain_arg}
use Rattle.btor_tree.specs.Sharing.{pushed, with_sort}
use Rattle.moxi_terms.specs.declared.data.Sort.{Sort}
use Rattle.moxi_terms.specs.declared.data.Sort.TheVariants.{Choice}
use Rattle.moxi_terms.specs.declared.data.Datum.TheVariants as datum
use Rattle.moxi_terms.specs.declared.term.Enumeration.{Enumeration}
use Rattle.moxi_terms.specs.declared.term.Variable.{Variable}
use Rattle.moxi_terms.specs.Operators.{nothing}
use Rattle.moxi_terms.specs.Tree.{Tree, constant}
use Rattle.moxi_terms.specs.View.{ScopeState}
use Rattle.moxi_terms.specs.Names.{constant_count}
use Rattle.moxi_scripts.specs.declared.script.Query.{Query}
use Rattle.moxi_scripts.specs.Script.{PlainFormula, formula_at}
use Rattle.moxi_flat.specs.FlatSystem.{PlainFlatSystem, PlainPart}
use Rattle.moxi_lines.specs.Codes.{choice_width, sort_bits}
use Rattle.moxi_lines.specs.TermLines.{AllBuilt, Built, call_lines, chain_lines, folded_lines, place_in, with_binary, with_constant, with_term}

-- ---- symbols

-- a byte of a symbol: itself where it is visible and begins no comment, else `_`
abbrev pub symbol_byte : ℕ → ℕ
symbol_byte b = if (nat_le 33 b && nat_le b 126) && not (nat_eq b 59) then b else 95

-- an empty name gives no symbol
abbrev pub symbol_of : List ℕ → Option (List ℕ)
symbol_of [] = None
symbol_of (b ∷ bs) = Some (map symbol_byte (b ∷ bs))

-- ---- the head

-- the sort of truth values, the constants one and zero, and the state that is one in frame 0 alone
abbrev pub head_lines : List Line
head_lines =
    record { id = 1; op = line.Sort 1; sort = 0; args = []; symbol = None }
    ∷ record { id = 2; op = line.One; sort = 0; args = []; symbol = None }
    ∷ record { id = 3; op = line.Zero; sort = 0; args = []; symbol = None }
    ∷ record { id = 4; op = line.State; sort = 0; args = []; symbol = Some (codes "first") }
    ∷ record { id = 5; op = line.Init; sort = 0; args = plain_arg 3 ∷ plain_arg 1 ∷ []; symbol = None }
    ∷ record { id = 6; op = line.Next; sort = 0; args = plain_arg 3 ∷ plain_arg 2 ∷ []; symbol = None }
    ∷ []

-- the places of the constants and of the state `first`
abbrev pub one_place : ℕ
one_place = 1

abbrev pub zero_place : ℕ
zero_place = 2

abbrev pub first_place : ℕ
first_place = 3

-- ---- single lines

-- an input or a state of this width
abbrev pub with_free : List Line → LineOp → ℕ → List ℕ → Built
with_free lines o width name = pushed (with_sort lines width).0 o (with_sort lines width).1 [] (symbol_of name)

-- the init or the next of a state of this width
abbrev pub with_given : List Line → LineOp → ℕ → ℕ → ℕ → List Line
with_given lines o width state value = (pushed (with_sort lines width).0 o (with_sort lines width).1 (plain_arg state ∷ plain_arg value ∷ []) None).0

abbrev pub with_constraint : Built → List Line
with_constraint m = (pushed m.0 line.Constraint 0 (plain_arg m.1 ∷ []) None).0

abbrev pub with_bad : List ℕ → Built → List Line
with_bad name m = (pushed m.0 line.Bad 0 (plain_arg m.1 ∷ []) (symbol_of name)).0

-- ---- variables

-- the code of an enumeration is below its number of constants; where these take all words, no line says so
abbrev pub with_code : List Enumeration → Sort → List Line → ℕ → List Line
with_code es (Choice n) lines p =
    let count = constant_count es n in
    let m = with_constant lines (record { width = choice_width count; bits = count }) in
    if nat_eq count (2 ^ choice_width count) then lines else with_constraint (with_binary two.Ult m.0 p m.1)
with_code es s lines p = lines

-- the state of a variable is behind its input: in each frame but the first it has the input of the frame before
abbrev pub with_state : List Enumeration → Variable → Built → Built
with_state es v m =
    let s = with_free m.0 line.State (sort_bits es v.sort) (v.name ++ codes ".prev") in
    (with_code es v.sort (with_given s.0 line.Next (sort_bits es v.sort) s.1 m.1) m.1, m.1)

abbrev pub with_variable : List Enumeration → List Line → Variable → Built
with_variable es lines v = with_state es v (with_free lines line.Input (sort_bits es v.sort) v.name)

-- with the places of the inputs
abbrev pub with_variables : List Enumeration → AllBuilt → List Variable → AllBuilt
with_variables es m [] = m
with_variables es m (v ∷ vs) =
    let one = with_variable es m.0 v in with_variables es (one.0, m.1 ++ one.1 ∷ []) vs

-- ---- formulas

-- the places of the inputs, and of the states
abbrev pub input_place : List ℕ → ℕ → ℕ
input_place inputs v = place_in inputs v

abbrev pub state_place : List ℕ → ℕ → ℕ
state_place inputs v = suc (place_in inputs v)

-- the lines of a formula of one step
abbrev pub with_formula : ScopeState → List ℕ → List Line → Tree → Built
with_formula s inputs lines t =
    with_term s.enumerations (call_lines s.enumerations s.functions (length s.functions)) (input_place inputs) (input_place inputs) [] lines t

-- those of a formula between the step before and this one
abbrev pub with_step : ScopeState → List ℕ → List Line → Tree → Built
with_step s inputs lines t =
    with_term s.enumerations (call_lines s.enumerations s.functions (length s.functions)) (state_place inputs) (input_place inputs) [] lines t

-- the term `true`
abbrev pub is_true_term : Tree → Bool
is_true_term (constant (datum.Truth true)) = true
is_true_term t = false

abbrev pub with_init : ScopeState → List ℕ → List Line → Tree → List Line
with_init s inputs lines t =
    let m = with_formula s inputs lines t in
    if is_true_term t then lines else with_constraint (with_binary two.Implies m.0 first_place m.1)

abbrev pub with_trans : ScopeState → List ℕ → List Line → Tree → List Line
with_trans s inputs lines t =
    let m = with_step s inputs lines t in
    if is_true_term t then lines else with_constraint (with_binary two.Or m.0 first_place m.1)

abbrev pub with_inv : ScopeState → List ℕ → List Line → Tree → List Line
with_inv s inputs lines t = if is_true_term t then lines else with_constraint (with_formula s inputs lines t)

abbrev pub with_part : ScopeState → List ℕ → List Line → PlainPart → List Line
with_part s inputs lines p = with_inv s inputs (with_trans s inputs (with_init s inputs lines p.init) p.trans) p.inv

abbrev pub with_parts : ScopeState → List ℕ → List Line → List PlainPart → List Line
with_parts s inputs lines [] = lines
with_parts s inputs lines (p ∷ ps) = with_parts s inputs (with_part s inputs lines p) ps

-- ---- queries

-- a state of a truth value that begins with the constant at a place
abbrev pub with_latch : List Line → List ℕ → ℕ → Built
with_latch lines name value =
    let s = with_free lines line.State 1 name in (with_given s.0 line.Init 1 s.1 value, s.1)

abbrev pub with_assumptions : PlainFlatSystem → List ℕ → AllBuilt → List ℕ → AllBuilt
with_assumptions f inputs m [] = m
with_assumptions f inputs m (a ∷ rest) =
    let n = with_formula f.scope inputs m.0 (formula_at f.assumptions a) in with_assumptions f inputs (n.0, m.1 ++ n.1 ∷ []) rest

-- a current condition counts in frame 0
abbrev pub with_currents : PlainFlatSystem → List ℕ → AllBuilt → List ℕ → AllBuilt
with_currents f inputs m [] = m
with_currents f inputs m (c ∷ rest) =
    let n = with_formula f.scope inputs m.0 (formula_at f.currents c) in
    let g = with_binary two.Implies n.0 first_place n.1 in
    with_currents f inputs (g.0, m.1 ++ g.1 ∷ []) rest

-- The chain of a query's assumptions and current conditions: a state that begins as one, and is one while they have held.
abbrev pub with_conditions : PlainFlatSystem → List ℕ → List Line → Query → Built
with_conditions f inputs lines q =
    let s = with_latch lines (q.name ++ codes ".ok") one_place in
    let parts = with_currents f inputs (with_assumptions f inputs (s.0, []) q.assumptions) q.currents in
    let chain = folded_lines two.And (parts.0, s.1) parts.1 in
    (with_given chain.0 line.Next 1 s.1 chain.1, chain.1)

abbrev pub formula_name : List PlainFormula → ℕ → List ℕ
formula_name fs i = (slice_index_or fs i (record { name = []; term = constant nothing })).name

-- what several reachable formulas have: the places of the formulas, and of what tells whether each was met so far
pub record Reaching : Type 0 where
  pub lines : List Line
  pub formulas : List ℕ
  pub seen : List ℕ

abbrev pub with_reachable : PlainFlatSystem → List ℕ → List ℕ → Reaching → ℕ → Reaching
with_reachable f inputs name m r =
    let s = with_latch m.lines (name ++ (codes "." ++ (formula_name f.reachables r ++ codes ".seen"))) zero_place in
    let n = with_formula f.scope inputs s.0 (formula_at f.reachables r) in
    let o = with_binary two.Or n.0 s.1 n.1 in
    record { lines = with_given o.0 line.Next 1 s.1 o.1; formulas = m.formulas ++ n.1 ∷ []; seen = m.seen ++ o.1 ∷ [] }

abbrev pub with_reachables : PlainFlatSystem → List ℕ → List ℕ → Reaching → List ℕ → Reaching
with_reachables f inputs name m [] = m
with_reachables f inputs name m (r ∷ rs) = with_reachables f inputs name (with_reachable f inputs name m r) rs

-- each formula was met, and one or more of them are met now; `before` has the place of the conditions' chain, where there is one
abbrev pub with_all_met : Reaching → List ℕ → Built
with_all_met m before =
    let all = chain_lines two.And m.lines (before ++ m.seen) in
    let some = chain_lines two.Or all.0 m.formulas in
    with_binary two.And some.0 all.1 some.1

abbrev pub with_one_met : Built → List ℕ → Built
with_one_met m [] = m
with_one_met m (p ∷ ps) = with_binary two.And m.0 p m.1

-- the word of a query's bad line
abbrev pub with_goal : PlainFlatSystem → List ℕ → Query → List ℕ → List Line → List ℕ → Built
with_goal f inputs q before lines (r ∷ []) = with_one_met (with_formula f.scope inputs lines (formula_at f.reachables r)) before
with_goal f inputs q before lines rs = with_all_met (with_reachables f inputs q.name (record { lines = lines; formulas = []; seen = [] }) rs) before

abbrev pub has_conditions : List ℕ → List ℕ → Bool
has_conditions [] [] = false
has_conditions assumptions currents = true

abbrev pub with_query : PlainFlatSystem → List ℕ → List Line → Query → List Line
with_query f inputs lines q =
    let chain = with_conditions f inputs lines q in
    with_bad q.name (if has_conditions q.assumptions q.currents then with_goal f inputs q (chain.1 ∷ []) chain.0 q.reachables else with_goal f inputs q [] lines q.reachables)

abbrev pub with_queries : PlainFlatSystem → List ℕ → List Line → List Query → List Line
with_queries f inputs lines [] = lines
with_queries f inputs lines (q ∷ qs) = with_queries f inputs (with_query f inputs lines q) qs

-- ---- systems

-- the head and the variables, with the places of the inputs
abbrev pub variable_lines : PlainFlatSystem → AllBuilt
variable_lines f = with_variables f.scope.enumerations (head_lines, []) f.variables

abbrev pub lines_of : PlainFlatSystem → List Line
lines_of f =
    let m = variable_lines f in with_queries f m.1 (with_parts f.scope m.1 m.0 f.parts) f.queries

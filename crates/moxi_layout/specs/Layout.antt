-- Which lists of lines lay a flat system out. The lines of variables, constraints, latches and bad lines are in one order and say
-- what they have to say of frames; which operators are between them is free.
use Rattle.std.specs.Prelude.{◌≡◌, ◌==◌, ℕ, suc, ◌<◌, nat_lt, Bool, true, false, not, ◌&&◌, ◌||◌, if◌then◌else◌, Option, Some, None, option_map, List, [], ◌∷◌, ◌++◌, map, flat_map, take, drop, length, slice_index_or}
use Rattle.std.specs.List.{list_all, list_any}
use Rattle.word_core.specs.Words.{BitVector}
use Rattle.word_core.specs.Table.{bit_of}
use Rattle.btor_tree.specs.declared.args.Arg.{Arg}
use Rattle.btor_tree.specs.declared.lines.Line.{Line}
use Rattle.btor_tree.specs.declared.lines.LineOp.{LineOp}
use Rattle.btor_tree.specs.Fits.{is_bad, is_constraint, is_init, is_input, is_next, is_state, operands, state_value}
use Rattle.btor_tree.specs.Frame.{Meets, operand, word_at}
use Rattle.btor_witness.specs.Room.{places_of}
use Rattle.moxi_terms.specs.declared.data.Sort.{Sort}
use Rattle.moxi_terms.specs.declared.data.Sort.TheVariants.{Choice}
use Rattle.moxi_terms.specs.declared.term.Enumeration.{Enumeration}
use Rattle.moxi_terms.specs.declared.term.Variable.{Variable}
use Rattle.moxi_terms.specs.Tree.{Tree}
use Rattle.moxi_terms.specs.Value.{Values}
use Rattle.moxi_terms.specs.View.{ScopeState}
use Rattle.moxi_terms.specs.Names.{constant_count}
use Rattle.moxi_scripts.specs.declared.script.Query.{Query}
use Rattle.moxi_scripts.specs.Script.{formula_at}
use Rattle.moxi_flat.specs.FlatSystem.{PlainFlatSystem, PlainPart}
use Rattle.moxi_lines.specs.TermLines.{place_in}
use Rattle.moxi_lines.specs.Lines.{has_conditions, is_true_term}
use Rattle.moxi_lines.specs.Constraints.{is_true}
use Rattle.moxi_lines.specs.Decoding.{PlacesInside, decoded}
use Rattle.moxi_layout.specs.Skeleton.{has_gap, has_several, latch_names, skeleton, skeleton_of}

-- ---- places

-- the places that are given by the order of inputs and states: the input of variable v, the state `first`, the state of the step
-- before of variable v, and behind these the latches of all queries
abbrev pub input_at : List Line → ℕ → ℕ
input_at lines v = place_in (places_of is_input lines) v

abbrev pub first_at : List Line → ℕ
first_at lines = place_in (places_of is_state lines) 0

abbrev pub prior_at : List Line → ℕ → ℕ
prior_at lines v = place_in (places_of is_state lines) (suc v)

abbrev pub latches_in : PlainFlatSystem → List Line → List ℕ
latches_in f lines = drop (suc (length f.variables)) (places_of is_state lines)

-- ---- words

-- the word of a truth value
abbrev pub truth_word : Bool → BitVector
truth_word b = record { width = 1; bits = bit_of b }

-- is it the word of true that is at the place?
abbrev pub is_set : List BitVector → ℕ → Bool
is_set row p = (word_at row p).bits == 1

-- the word that an init or next line gives to a state, where there is such a line
abbrev pub given : (LineOp → Bool) → List Line → List BitVector → ℕ → Option BitVector
given kind lines row s = option_map (operand row) (state_value kind lines s)

-- the values that the words of a row stand for: those of this step, and those of the step before
abbrev pub now_values : PlainFlatSystem → List Line → List BitVector → Values
now_values f lines row = decoded f.scope.enumerations f.variables row (input_at lines)

abbrev pub before_values : PlainFlatSystem → List Line → List BitVector → Values
before_values f lines row = decoded f.scope.enumerations f.variables row (prior_at lines)

-- the row meets the lines, and the codes are inside: those of this step, and where `first` is zero those of the step before
pub record IsInRange (f : PlainFlatSystem) (lines : List Line) (row : List BitVector) : Type 0 where
  pub meets : Meets lines row
  pub now : PlacesInside f.scope.enumerations f.variables row (input_at lines)
  pub before : is_set row (first_at lines) ≡ false → PlacesInside f.scope.enumerations f.variables row (prior_at lines)

-- ---- constraints

-- is it the word of a constant?
abbrev pub is_inside : List Enumeration → Sort → BitVector → Bool
is_inside es (Choice n) x = nat_lt x.bits (constant_count es n)
is_inside es s x = true

-- for each variable that has a constraint on its code, by the places of the inputs: is the code below the number of constants?
abbrev pub codes_inside : List Enumeration → List BitVector → List Variable → List ℕ → List Bool
codes_inside es row (v ∷ vs) (p ∷ ps) =
    (if has_gap es v.sort then (is_inside es v.sort (word_at row p) ∷ []) else []) ++ codes_inside es row vs ps
codes_inside es row vs ps = []

abbrev pub unless_true : Tree → Bool → List Bool
unless_true t b = if is_true_term t then [] else (b ∷ [])

-- what the constraints of a part say: its init formula counts in frame 0, its trans formula in all later frames
abbrev pub part_values : ScopeState → Bool → Values → Values → PlainPart → List Bool
part_values s first before now p =
    unless_true p.init (not first || is_true s now now p.init) ++ (unless_true p.trans (first || is_true s before now p.trans) ++ unless_true p.inv (is_true s now now p.inv))

abbrev pub formula_values : ScopeState → Bool → Values → Values → List PlainPart → List Bool
formula_values s first before now ps = flat_map (part_values s first before now) ps

-- ---- queries, with the truth values of their latches

-- the latches begin as true where they tell of conditions, and as false where they tell of formulas that are reached
abbrev pub latch_inits : Query → List Bool
latch_inits q =
    (if has_conditions q.assumptions q.currents then (true ∷ []) else []) ++ (if has_several q.reachables then map (λ r. false) q.reachables else [])

-- have the conditions held in all frames before?
abbrev pub held_before : Query → List Bool → Bool
held_before q latches = if has_conditions q.assumptions q.currents then slice_index_or latches 0 true else true

-- which formulas were reached in a frame before?
abbrev pub reached_before : Query → List Bool → List Bool
reached_before q latches = if has_conditions q.assumptions q.currents then drop 1 latches else latches

-- have they held up to this frame? A current condition counts in frame 0.
abbrev pub held_now : PlainFlatSystem → Bool → Values → Query → List Bool → Bool
held_now f first now q latches =
    held_before q latches && (list_all (λ a. is_true f.scope now now (formula_at f.assumptions a)) q.assumptions && list_all (λ c. not first || is_true f.scope now now (formula_at f.currents c)) q.currents)

abbrev pub is_reached : PlainFlatSystem → Values → ℕ → Bool
is_reached f now r = is_true f.scope now now (formula_at f.reachables r)

-- which formulas are reached in this frame, or were before?
abbrev pub reached_upto : PlainFlatSystem → Values → List ℕ → List Bool → List Bool
reached_upto f now [] before = []
reached_upto f now (r ∷ rs) [] = is_reached f now r ∷ reached_upto f now rs []
reached_upto f now (r ∷ rs) (b ∷ bs) = (b || is_reached f now r) ∷ reached_upto f now rs bs

abbrev pub reached_now : PlainFlatSystem → Values → Query → List Bool → List Bool
reached_now f now q latches = reached_upto f now q.reachables (reached_before q latches)

-- the next values of the latches
abbrev pub latch_nexts : PlainFlatSystem → Bool → Values → Query → List Bool → List Bool
latch_nexts f first now q latches =
    (if has_conditions q.assumptions q.currents then (held_now f first now q latches ∷ []) else []) ++ (if has_several q.reachables then reached_now f now q latches else [])

-- is the query met in this frame? The conditions have held, each formula is reached or was before, and one or more are reached now.
abbrev pub is_met : PlainFlatSystem → Bool → Values → Query → List Bool → Bool
is_met f first now q latches =
    held_now f first now q latches && (list_all (λ b. b) (reached_now f now q latches) && list_any (is_reached f now) q.reachables)

-- What a query's latches and its bad line say: in each row that meets the lines the inits have the words of their constants, and in
-- each row whose codes are in range the nexts and the bad line have the words of the query's formulas.
pub record IsQueryLaid (f : PlainFlatSystem) (lines : List Line) (q : Query) (latches : List ℕ) (bad : Arg) : Type 0 where
  pub inits : (row : List BitVector) → Meets lines row → map (given is_init lines row) latches ≡ map (λ b. Some (truth_word b)) (latch_inits q)
  pub nexts : (row : List BitVector) → IsInRange f lines row
      → map (given is_next lines row) latches ≡ map (λ b. Some (truth_word b)) (latch_nexts f (is_set row (first_at lines)) (now_values f lines row) q (map (is_set row) latches))
  pub bad_word : (row : List BitVector) → IsInRange f lines row
      → operand row bad ≡ truth_word (is_met f (is_set row (first_at lines)) (now_values f lines row) q (map (is_set row) latches))

-- each query has its latches, of which there are as many as it has names for them, and one bad line
abbrev pub AreQueriesLaid : PlainFlatSystem → List Line → List Query → List ℕ → List Arg → Type 0
AreQueriesLaid f lines [] [] [] = Unit {0}
AreQueriesLaid f lines (q ∷ qs) latches (b ∷ bs) =
    let n = length (latch_names f q) in
    IsQueryLaid f lines q (take n latches) b × AreQueriesLaid f lines qs (drop n latches) bs
AreQueriesLaid f lines qs latches bs = ⊥

-- ---- layouts

-- The lines lay the system out.
pub record LaysOut (f : PlainFlatSystem) (lines : List Line) : Type 0 where
  -- the lines of kind input, state, init, next, constraint and bad are in the system's order, with its widths and symbols
  pub order : skeleton lines ≡ skeleton_of f
  -- in each row that meets the lines, `first` begins as one and its next is zero
  pub first_init : (row : List BitVector) → Meets lines row → given is_init lines row (first_at lines) ≡ Some (truth_word true)
  pub first_next : (row : List BitVector) → Meets lines row → given is_next lines row (first_at lines) ≡ Some (truth_word false)
  -- a state of the step before begins as anything, and its next is the variable's input
  pub prior_init : (v : ℕ) → v < length f.variables → state_value is_init lines (prior_at lines v) ≡ None
  pub prior_next : (row : List BitVector) → Meets lines row → (v : ℕ) → v < length f.variables → given is_next lines row (prior_at lines v) ≡ Some (word_at row (input_at lines v))
  -- the constraints on codes, and behind them those of the parts' formulas
  pub codes : List Arg
  pub formulas : List Arg
  pub constraints : operands is_constraint lines ≡ codes ++ formulas
  -- in each row that meets the lines, the constraint on a code is true exactly where the code is below the number of constants
  pub code_words : (row : List BitVector) → Meets lines row → map (operand row) codes ≡ map truth_word (codes_inside f.scope.enumerations row f.variables (places_of is_input lines))
  -- in each row whose codes are in range, the constraint of a formula has the word of its value
  pub formula_words : (row : List BitVector) → IsInRange f lines row
      → map (operand row) formulas ≡ map truth_word (formula_values f.scope (is_set row (first_at lines)) (before_values f lines row) (now_values f lines row) f.parts)
  -- the latches and the bad lines are those of the queries
  pub queries : AreQueriesLaid f lines f.queries (latches_in f lines) (operands is_bad lines)

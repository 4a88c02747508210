-- What a builder asks for where the lines of a flat system are put.
use Rattle.std.specs.Prelude.{◌≡◌, ℕ, ◌<◌, ◌≤◌, Bool, true, None, List, [], ◌∷◌, length}
use Rattle.std.specs.List.{AllByRecursion}
use Rattle.word_core.specs.Words.{BitVector, IsWord}
use Rattle.word_core.specs.declared.kinds.Binary.TheVariants as two
use Rattle.word_core.specs.declared.word.TheConstants.{WIDEST}
use Rattle.btor_tree.specs.declared.lines.Line.{Line}
use Rattle.btor_tree.specs.declared.lines.LineOp.{LineOp}
use Rattle.btor_tree.specs.Fits.{AreEarlier, OpFits, greatest_id, is_state, kind_at, plain_arg, state_value, width_at}
use Rattle.btor_tree.specs.Sharing.{with_sort}
use Rattle.moxi_terms.specs.declared.data.Sort.{Sort}
use Rattle.moxi_terms.specs.declared.data.Sort.TheVariants.{Truth}
use Rattle.moxi_terms.specs.declared.term.Enumeration.{Enumeration}
use Rattle.moxi_terms.specs.declared.term.Variable.{Variable}
use Rattle.moxi_terms.specs.Sorted.{AreSorts, HasSort, IsScope}
use Rattle.moxi_terms.specs.Sorts.{IsSort}
use Rattle.moxi_terms.specs.Tree.{Tree, sorts_of}
use Rattle.moxi_terms.specs.View.{ScopeState}
use Rattle.moxi_flat.specs.FlatSystem.{PlainPart}
use Rattle.moxi_lines.specs.Codes.{sort_bits}
use Rattle.moxi_lines.specs.TermLaws.{HaveCodes}
use Rattle.moxi_lines.specs.TermLines.{AllBuilt, with_binary, with_constant}
use Rattle.moxi_to_btor.specs.Standing.{VariablesAreAsWide}
use Rattle.moxi_lines.specs.Lines.{first_place, input_place, one_place, state_place, with_code, with_constraint, with_formula, with_free, with_given, with_init, with_inv, with_part, with_parts, with_step, with_trans, with_variable, with_variables, zero_place}

-- ---- single lines

-- an input or a state of this width
pub record CanPutFree (lines : List Line) (o : LineOp) (w : ℕ) (name : List ℕ) : Type 0 where
  pub room : length (with_free lines o w name).0 < greatest_id
  pub low : 1 ≤ w
  pub high : w ≤ WIDEST
  pub fits : OpFits (with_sort lines w).0 (with_sort lines w).1 o []

-- the init or the next of a state of this width
pub record CanPutGiven (lines : List Line) (o : LineOp) (w state value : ℕ) : Type 0 where
  pub room : length (with_given lines o w state value) < greatest_id
  pub low : 1 ≤ w
  pub high : w ≤ WIDEST
  pub earlier : AreEarlier (length (with_sort lines w).0) (plain_arg state ∷ plain_arg value ∷ [])
  pub fits : OpFits (with_sort lines w).0 (with_sort lines w).1 o (plain_arg state ∷ plain_arg value ∷ [])

-- a state of this width that has no value of this kind yet
pub record IsOpen (kind : LineOp → Bool) (lines : List Line) (p w : ℕ) : Type 0 where
  pub state : kind_at is_state lines p ≡ true
  pub width : width_at lines p ≡ w
  pub none : state_value kind lines p ≡ None

-- a truth value of which something is said
pub record CanPutTruth (lines : List Line) (p : ℕ) : Type 0 where
  pub room : length lines < greatest_id
  pub width : width_at lines p ≡ 1

-- ---- variables

-- the code of a variable's value is at a place
pub record CanPutCode (es : List Enumeration) (s : Sort) (lines : List Line) (p : ℕ) : Type 0 where
  pub codes : HaveCodes es
  pub sort : IsSort es s
  pub width : width_at lines p ≡ sort_bits es s
  pub room : length (with_code es s lines p) < greatest_id

-- the word at a place is below a constant
abbrev pub below_lines : BitVector → List Line → ℕ → List Line
below_lines x lines p = let m = with_constant lines x in with_constraint (with_binary two.Ult m.0 p m.1)

pub record CanPutBelow (x : BitVector) (lines : List Line) (p : ℕ) : Type 0 where
  pub word : IsWord x
  pub width : width_at lines p ≡ x.width
  pub room : length (below_lines x lines p) < greatest_id

pub record CanPutVariable (es : List Enumeration) (lines : List Line) (v : Variable) : Type 0 where
  pub codes : HaveCodes es
  pub sort : IsSort es v.sort
  pub room : length (with_variable es lines v).0 < greatest_id

pub record CanPutVariables (es : List Enumeration) (m : AllBuilt) (vs : List Variable) : Type 0 where
  pub codes : HaveCodes es
  pub sorts : AreSorts es (sorts_of vs)
  pub room : length (with_variables es m vs).0 < greatest_id

-- ---- formulas

-- what is in lines for the formulas of a system
pub record IsSetUp (s : ScopeState) (vars : List Variable) (inputs : List ℕ) (lines : List Line) : Type 0 where
  pub codes : HaveCodes s.enumerations
  pub sound : IsScope s
  pub stand_now : VariablesAreAsWide s.enumerations lines (sorts_of vars) (input_place inputs)
  pub stand_before : VariablesAreAsWide s.enumerations lines (sorts_of vars) (state_place inputs)
  pub one : width_at lines one_place ≡ 1
  pub zero : width_at lines zero_place ≡ 1
  pub first : width_at lines first_place ≡ 1

-- a term of truth values over the variables
abbrev pub IsTruthOver : ScopeState → List Variable → Tree → Type 0
IsTruthOver s vars t = HasSort s.enumerations s.functions (sorts_of vars) [] t Truth

pub record CanPutFormula (s : ScopeState) (inputs : List ℕ) (lines : List Line) (t : Tree) : Type 0 where
  pub vars : List Variable
  pub there : IsSetUp s vars inputs lines
  pub truth : IsTruthOver s vars t
  pub room : length (with_formula s inputs lines t).0 < greatest_id

pub record CanPutStep (s : ScopeState) (inputs : List ℕ) (lines : List Line) (t : Tree) : Type 0 where
  pub vars : List Variable
  pub there : IsSetUp s vars inputs lines
  pub truth : IsTruthOver s vars t
  pub room : length (with_step s inputs lines t).0 < greatest_id

pub record CanPutInit (s : ScopeState) (inputs : List ℕ) (lines : List Line) (t : Tree) : Type 0 where
  pub vars : List Variable
  pub there : IsSetUp s vars inputs lines
  pub truth : IsTruthOver s vars t
  pub room : length (with_init s inputs lines t) < greatest_id

pub record CanPutTrans (s : ScopeState) (inputs : List ℕ) (lines : List Line) (t : Tree) : Type 0 where
  pub vars : List Variable
  pub there : IsSetUp s vars inputs lines
  pub truth : IsTruthOver s vars t
  pub room : length (with_trans s inputs lines t) < greatest_id

pub record CanPutInv (s : ScopeState) (inputs : List ℕ) (lines : List Line) (t : Tree) : Type 0 where
  pub vars : List Variable
  pub there : IsSetUp s vars inputs lines
  pub truth : IsTruthOver s vars t
  pub room : length (with_inv s inputs lines t) < greatest_id

-- the formulas of an instance are over the variables
pub record IsPartOver (s : ScopeState) (vars : List Variable) (p : PlainPart) : Type 0 where
  pub init : IsTruthOver s vars p.init
  pub trans : IsTruthOver s vars p.trans
  pub inv : IsTruthOver s vars p.inv

pub record CanPutPart (s : ScopeState) (inputs : List ℕ) (lines : List Line) (p : PlainPart) : Type 0 where
  pub vars : List Variable
  pub there : IsSetUp s vars inputs lines
  pub over : IsPartOver s vars p
  pub room : length (with_part s inputs lines p) < greatest_id

pub record CanPutParts (s : ScopeState) (inputs : List ℕ) (lines : List Line) (ps : List PlainPart) : Type 0 where
  pub vars : List Variable
  pub there : IsSetUp s vars inputs lines
  pub over : AllByRecursion (IsPartOver s vars) ps
  pub room : length (with_parts s inputs lines ps) < greatest_id

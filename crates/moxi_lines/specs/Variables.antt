-- What the lines of variables are: inputs, the states of the step before, and when the codes of enumerations are inside.
use Rattle.std.specs.Prelude.{◌≡◌, ◌↔◌, ℕ, suc, ◌<◌, true, List, [], ◌∷◌, ◌++◌, Some}
use Rattle.word_core.specs.Words.{BitVector}
use Rattle.btor_tree.specs.declared.lines.Line.{Line}
use Rattle.btor_tree.specs.Fits.{is_input, is_next, is_state, kind_at, plain_arg, state_value, width_at}
use Rattle.btor_tree.specs.Frame.{ConstraintsHold, Meets, word_at}
use Rattle.moxi_terms.specs.declared.data.Sort.{Sort}
use Rattle.moxi_terms.specs.declared.data.Sort.TheVariants.{Choice}
use Rattle.moxi_terms.specs.declared.term.Enumeration.{Enumeration}
use Rattle.moxi_terms.specs.declared.term.Variable.{Variable}
use Rattle.moxi_terms.specs.Names.{constant_count}
use Rattle.moxi_lines.specs.Codes.{sort_bits}
use Rattle.moxi_lines.specs.TermLaws.{AreNumbered}
use Rattle.moxi_lines.specs.Lines.{head_lines}

-- an input, and behind it a state of its width whose next value it is
pub record IsVariableAt (es : List Enumeration) (lines : List Line) (v : Variable) (p : ℕ) : Type 0 where
  pub input : kind_at is_input lines p ≡ true
  pub input_width : width_at lines p ≡ sort_bits es v.sort
  pub state : kind_at is_state lines (suc p) ≡ true
  pub state_width : width_at lines (suc p) ≡ sort_bits es v.sort
  pub next : state_value is_next lines (suc p) ≡ Some (plain_arg p)

abbrev pub AreVariablesAt : List Enumeration → List Line → List Variable → List ℕ → Type 0
AreVariablesAt es lines [] [] = Unit {0}
AreVariablesAt es lines (v ∷ vs) (p ∷ ps) = IsVariableAt es lines v p × AreVariablesAt es lines vs ps
AreVariablesAt es lines vs ps = ⊥

-- the word is that of a constant of the enumeration
abbrev pub IsInside : List Enumeration → Sort → BitVector → Type 0
IsInside es (Choice n) x = x.bits < constant_count es n
IsInside es s x = Unit {0}

abbrev pub AreInside : List Enumeration → List BitVector → List Variable → List ℕ → Type 0
AreInside es row [] [] = Unit {0}
AreInside es row (v ∷ vs) (p ∷ ps) = IsInside es v.sort (word_at row p) × AreInside es row vs ps
AreInside es row vs ps = ⊥

-- the lines of variables behind the head: their constraints hold exactly where the codes are inside
pub record AreVariableLines (es : List Enumeration) (vs : List Variable) (lines : List Line) (inputs : List ℕ) : Type 0 where
  pub more : List Line
  pub extends : lines ≡ head_lines ++ more
  pub numbered : AreNumbered lines
  pub each : AreVariablesAt es lines vs inputs
  pub constraints : (row : List BitVector) → Meets lines row → ConstraintsHold lines row ↔ AreInside es row vs inputs

-- When the constraints of the parts' lines hold in a frame.
use Rattle.std.specs.Prelude.{◌≡◌, ◌↔◌, ℕ, Bool, true, false, not, ◌&&◌, ◌||◌, List, [], ◌++◌}
use Rattle.std.specs.List.{list_all}
use Rattle.word_core.specs.Words.{BitVector}
use Rattle.word_core.specs.Table.{bit_of}
use Rattle.btor_tree.specs.declared.lines.Line.{Line}
use Rattle.btor_tree.specs.Fits.{width_at}
use Rattle.btor_tree.specs.Frame.{ConstraintsHold, Meets, word_at}
use Rattle.moxi_terms.specs.Operators.{truth_of}
use Rattle.moxi_terms.specs.Tree.{Tree, sorts_of}
use Rattle.moxi_terms.specs.Value.{Values, term_value}
use Rattle.moxi_terms.specs.View.{ScopeState}
use Rattle.moxi_scripts.specs.Script.{calls_in}
use Rattle.moxi_flat.specs.FlatSystem.{PlainFlatSystem, PlainPart}
use Rattle.moxi_lines.specs.TermLaws.{AreNumbered, VariablesAreRepresented}
use Rattle.moxi_lines.specs.Lines.{first_place, input_place, state_place}

-- a formula is true of the values before and now
abbrev pub is_true : ScopeState → Values → Values → Tree → Bool
is_true s before now t = truth_of (term_value (calls_in s) before now [] t)

-- what a part's constraints say: its init formula counts in the first frame, and its trans formula in all others
abbrev pub part_holds : ScopeState → Bool → Values → Values → PlainPart → Bool
part_holds s first before now p = (not first || is_true s now now p.init) && ((first || is_true s before now p.trans) && is_true s now now p.inv)

abbrev pub parts_hold : ScopeState → Bool → Values → Values → List PlainPart → Bool
parts_hold s first before now ps = list_all (part_holds s first before now) ps

-- Lines with more behind them: where the words of variables are known, the constraints hold exactly where those before do and this is true.
pub record Constrains (row : List BitVector) (known : Bool) (lines new : List Line) (b : Bool) : Type 0 where
  pub more : List Line
  pub extends : new ≡ lines ++ more
  pub numbered : AreNumbered new
  pub constraints : known ≡ true → Meets new row → ConstraintsHold new row ↔ (ConstraintsHold lines row × (b ≡ true))

-- What is in lines for a system's formulas: `first`, and the variables at their places. The words of the step before need be
-- known in frames that aren't the first.
pub record VariablesAreThere (f : PlainFlatSystem) (row : List BitVector) (known both first : Bool) (inputs : List ℕ) (before now : Values) (lines : List Line) : Type 0 where
  pub first_width : width_at lines first_place ≡ 1
  pub first_word : Meets lines row → word_at row first_place ≡ record { width = 1; bits = bit_of first }
  pub later : first ≡ false → known ≡ true → both ≡ true
  pub now_known : VariablesAreRepresented f.scope.enumerations row known lines (sorts_of f.variables) (input_place inputs) now
  pub now_both : VariablesAreRepresented f.scope.enumerations row both lines (sorts_of f.variables) (input_place inputs) now
  pub before_both : VariablesAreRepresented f.scope.enumerations row both lines (sorts_of f.variables) (state_place inputs) before

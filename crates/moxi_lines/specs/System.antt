-- When all constraints of a flat system's lines hold in a frame.
use Rattle.std.specs.Prelude.{◌≡◌, ◌↔◌, ℕ, ◌<◌, Bool, true, false, List, length, Some}
use Rattle.word_core.specs.Words.{BitVector}
use Rattle.word_core.specs.Table.{bit_of}
use Rattle.btor_tree.specs.declared.lines.Line.{Line}
use Rattle.btor_tree.specs.Fits.{greatest_id, is_init, is_next, plain_arg, state_value}
use Rattle.btor_tree.specs.Frame.{ConstraintsHold, Meets, word_at}
use Rattle.moxi_flat.specs.FlatSorts.{IsSortedFlat}
use Rattle.moxi_flat.specs.FlatSystem.{PlainFlatSystem}
use Rattle.moxi_lines.specs.TermLaws.{HaveCodes}
use Rattle.moxi_lines.specs.Lines.{first_place, input_place, lines_of, one_place, state_place, variable_lines, with_parts, zero_place}
use Rattle.moxi_lines.specs.Variables.{AreInside, AreVariablesAt}
use Rattle.moxi_lines.specs.Decoding.{PlacesInside, decoded}
use Rattle.moxi_lines.specs.Constraints.{parts_hold}

-- the codes are inside, and the parts' formulas are true of the values that the words stand for
abbrev pub IsAllowed : PlainFlatSystem → Bool → List BitVector → Type 0
IsAllowed f first row =
    let es = f.scope.enumerations in
    let inputs = (variable_lines f).1 in
    AreInside es row f.variables inputs × (parts_hold f.scope first (decoded es f.variables row (state_place inputs)) (decoded es f.variables row (input_place inputs)) f.parts ≡ true)

-- in frames that aren't the first, the codes of the step before are inside
abbrev pub WereInside : PlainFlatSystem → Bool → List BitVector → Type 0
WereInside f first row = first ≡ false → PlacesInside f.scope.enumerations f.variables row (state_place (variable_lines f).1)

-- In a row that meets the lines, all constraints hold exactly where the row is allowed: those of variables and parts are all there are.
abbrev pub SystemsAreConstrained : Type 0
SystemsAreConstrained = (f : PlainFlatSystem) → HaveCodes f.scope.enumerations → IsSortedFlat f → length (with_parts f.scope (variable_lines f).1 (variable_lines f).0 f.parts) < greatest_id
    → (row : List BitVector) → Meets (lines_of f) row → (first : Bool) → word_at row first_place ≡ record { width = 1; bits = bit_of first } → WereInside f first row
    → ConstraintsHold (lines_of f) row ↔ IsAllowed f first row

-- What is in the lines for the order of frames: `first` begins as one and is zero in all later frames, and each variable has
-- its input and its state.
pub record IsFramed (f : PlainFlatSystem) (lines : List Line) (inputs : List ℕ) : Type 0 where
  pub first_init : state_value is_init lines first_place ≡ Some (plain_arg one_place)
  pub first_next : state_value is_next lines first_place ≡ Some (plain_arg zero_place)
  pub one : (row : List BitVector) → Meets lines row → word_at row one_place ≡ record { width = 1; bits = 1 }
  pub zero : (row : List BitVector) → Meets lines row → word_at row zero_place ≡ record { width = 1; bits = 0 }
  pub variables : AreVariablesAt f.scope.enumerations lines f.variables inputs

abbrev pub SystemsAreFramed : Type 0
SystemsAreFramed = (f : PlainFlatSystem) → HaveCodes f.scope.enumerations → IsSortedFlat f → length (with_parts f.scope (variable_lines f).1 (variable_lines f).0 f.parts) < greatest_id
    → IsFramed f (lines_of f) (variable_lines f).1

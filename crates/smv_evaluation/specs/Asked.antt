-- What must hold where the value of an expression is asked, and that value.
use Rattle.std.specs.Prelude.{not, ◌||◌, true, ◌≡◌, ℕ, List, Option, is_some}
use Rattle.std.specs.Borrow.{Bor}
use Rattle.smv_text.specs.Tree.{Tree}
use Rattle.smv_meaning.specs.declared.value.Value.{Value}
use Rattle.smv_meaning.specs.declared.value.Given.{Given}
use Rattle.smv_meaning.specs.Values.{Valuation}
use Rattle.smv_meaning.specs.Instances.{Instance}
use Rattle.smv_meaning.specs.Names.{found_in, steps_of}
use Rattle.smv_meaning.specs.Meaning.{denoted}
use Rattle.smv_meaning.specs.Owed.{following_or, label_given, following_given}
use Rattle.smv_meaning.specs.Runs.{state_fits}
use Rattle.smv_meaning.specs.Literals.{words_fit}
use Rattle.smv_meaning.specs.Parts.{OccursIn}
use Rattle.smv_meaning.specs.Checked.{IsChecked, all_trees, reaches_an_input}
use Rattle.smv_evaluation.specs.View.{stated}

abbrev pub States : Type 0
States = Option (Bor (List Given))

-- The model is checked, the expression occurs in the instance, and the states give what the expression reads.
pub record IsAsked (t : List Instance) (i : ℕ) (e : Tree) (state : Valuation) (label following : States) : Type 0 where
  pub checked : IsChecked t
  pub words : all_trees words_fit t ≡ true
  pub occurs : OccursIn t i e
  pub reach : (is_some label || not (reaches_an_input t i e)) ≡ true
  pub now_fits : state_fits t state ≡ true
  pub label_fits : label_given t label ≡ true
  pub next_fits : following_given t following ≡ true

-- the value of the expression in the state, under the label and before the following state
abbrev pub value_asked : List Instance → ℕ → Tree → Valuation → States → States → Value
value_asked t i e state label following = (denoted (found_in t) (steps_of t) i e state (stated label) (following_or state following)).value

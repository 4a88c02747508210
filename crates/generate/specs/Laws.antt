-- How many variables the lines of a model are for (BTOR2, CAV 2018), and that the made texts define one answer.
use Rattle.std.specs.Prelude.{◌≡◌, ℕ, length}
use Rattle.btor_tree.specs.Fits.{count_of, is_input}
use Rattle.command_core.specs.declared.answer.Answer.{Answer}
use Rattle.witness_lift.specs.LineLaws.{OfAccepted, model_lines, model_system}
use Rattle.generate.specs.Generating.{IsGenerated}

-- there is an input line for each variable of the flat system
abbrev pub InputsAreVariables : Type 0
InputsAreVariables = OfAccepted (λ source. count_of is_input (model_lines source) ≡ length (model_system source).variables)

-- of each number of cells
abbrev pub OneGenerated : Type 0
OneGenerated = (n : ℕ) (a b : Answer) → IsGenerated n a → IsGenerated n b → a ≡ b

-- The text written for the generated model and witness with a number of cells.
use Rattle.std.specs.Prelude.{◌≡◌, ℕ, List, Option}
use Rattle.text_core.specs.Outside.{grown}
use Rattle.command_core.specs.declared.answer.Answer.TheVariants.{Done}
use Rattle.command_core.specs.declared.answer.Output.TheVariants.{Text}
use Rattle.generate.specs.Generating.{IsGenerated}

-- the text that was written is the summary of the generated texts
pub record IsSummarized (n : ℕ) (before now : Option (List ℕ)) : Type 0 where
  pub text : List ℕ
  pub written : now ≡ grown before text
  pub summary : IsGenerated n (Done (Text text))

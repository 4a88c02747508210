-- What a step begins that doesn't go on.
use Rattle.std.proofs.Common.{inr, ℕ, List, Option, Some, None, refl}
use Rattle.text_core.specs.Outside.{Files}
use Rattle.top_call.specs.declared.words.Command.{Command}
use Rattle.top_call.specs.declared.words.Command.TheVariants.{JudgeBtor}
use Rattle.top_call.specs.Words.{BeginsNoSecond}

-- where nothing is begun, no second file is
pub begins_nothing : (files : Option Files) (before : Option (List ℕ)) (command : Option Command) → BeginsNoSecond files before before command
begins_nothing None before (Some (JudgeBtor model second)) = tt
begins_nothing (Some fs) before (Some (JudgeBtor model second)) = inr refl
begins_nothing files before command = tt

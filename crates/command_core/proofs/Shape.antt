-- The command as clap builds it.
use Rattle.std.proofs.Common.{ℕ, true, List, [], ◌∷◌, Option, Some, codes}
use Rattle.clap.specs.Walk.{Rule, Text}
use Rattle.clap.specs.Simple.{App, Shape, new_shape, new_rule}
use Rattle.clap.specs.declared.builder.action.ArgAction.TheVariants.{Set}
use Rattle.clap.specs.declared.builder.range.ValueRange.{ValueRange}
use Rattle.clap.specs.declared.builder.value_parser.ValueParser.TheVariants as parser
use Rattle.command_core.specs.Clap.{property_rule}

abbrev pub one_value : Option ValueRange
one_value = Some (record { start_inclusive = 1; end_inclusive = 1 })

abbrev pub positional_rule : Text → ℕ → Rule
positional_rule id place = record (new_rule id) { index = Some place; action = Some Set; range = one_value; parser = Some parser.String }

abbrev pub option_rule : Rule
option_rule = record property_rule { range = one_value; parser = Some parser.String }

abbrev pub first_id : Text
first_id = codes "first"

abbrev pub second_id : Text
second_id = codes "second"

abbrev pub third_id : Text
third_id = codes "third"

abbrev pub property_id : Text
property_id = codes "property"

abbrev pub rules : List Rule
rules = positional_rule first_id 1 ∷ positional_rule second_id 2 ∷ positional_rule third_id 3 ∷ option_rule ∷ []

abbrev pub shape : Shape
shape = record (new_shape (codes "words")) { rules = rules; no_binary_name = true; disable_help_flag = true; disable_help_subcommand = true; is_built = true }

abbrev pub app : App
app = record { top = shape; subs = [] }

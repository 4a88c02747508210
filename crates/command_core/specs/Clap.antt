-- The command as clap sees it, and what its matches say.
use Rattle.std.specs.Prelude.{ℕ, true, option_map, Option, Some, None, codes, List, []}
use Rattle.std.specs.List.{cons_option}
use Rattle.clap.specs.Words.{App, Rule, new_app, new_rule, with_rule}
use Rattle.clap.specs.Simple.{on_top}
use Rattle.clap.specs.declared.builder.action.ArgAction.TheVariants.{Set}
use Rattle.command_core.specs.Numbers.{invariant_number}
use Rattle.command_core.specs.Words.{PlainWords}

abbrev pub property_rule : Rule
property_rule = record (new_rule (codes "property")) { long = Some (codes "property"); action = Some Set }

-- three positional words and one option with a value, and no flag for help
abbrev pub word_app : App
word_app =
    with_rule (with_rule (with_rule (with_rule (on_top (λ s. record s { no_binary_name = true; disable_help_flag = true }) (new_app (codes "words")))
    (new_rule (codes "first"))) (new_rule (codes "second"))) (new_rule (codes "third"))) property_rule

-- the words that stand by themselves, and the value of `--property` as a text
pub record Texts : Type 0 where
  pub positionals : List (List ℕ)
  pub property : Option (List ℕ)

-- the texts by the names of the arguments
abbrev pub texts_by : (List ℕ → Option (List ℕ)) → Texts
texts_by value = record {
  positionals = cons_option (value (codes "first")) (cons_option (value (codes "second")) (cons_option (value (codes "third")) []));
  property = value (codes "property");
}

-- the value of `--property` as a number, where there is a value
abbrev pub number_in : Option (List ℕ) → Option (Option ℕ)
number_in None = Some None
number_in (Some text) = option_map Some (invariant_number text)

abbrev pub numbered : Texts → Option PlainWords
numbered texts = option_map (λ j. record { positionals = texts.positionals; property = j }) (number_in texts.property)

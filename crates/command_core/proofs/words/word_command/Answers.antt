use Rattle.std.proofs.Common.{rules, true, ◌≡◌, ◌∙◌, ap, ap₂, codes}
use Rattle.std.proofs.lemmas.Result.{IfOk-weaker}
use Rattle.clap.specs.Words.{new_rule, rule_of, with_rule}
use Rattle.clap.specs.Simple.{app_of_fields, on_top}
use Rattle.command_core.specs.Clap.{property_rule}
use Rattle.command_core.proofs.words.word_command.Goals as goal

pub returns : goal.returns
returns c =
    let property_is : rule_of c.action.result ≡ property_rule = search rules in
    let first_is : rule_of c.new-2.result ≡ new_rule (codes "first") = search rules in
    let second_is : rule_of c.new-3.result ≡ new_rule (codes "second") = search rules in
    let third_is : rule_of c.new-4.result ≡ new_rule (codes "third") = search rules in
    let named = ap (on_top (λ s. record s { no_binary_name = true })) c.new.ensures.app in
    let bare = ap app_of_fields c.disable_help_flag.ensures ∙ ap (λ a. on_top (λ s. record s { disable_help_flag = true }) a) (ap app_of_fields c.no_binary_name.ensures ∙ named) in
    let one = c.in_ok-arg.ensures.shape (search rules) ∙ ap₂ with_rule bare first_is in
    let two = c.in_ok-arg-2.ensures.shape (search rules) ∙ ap₂ with_rule one second_is in
    let three = c.in_ok-arg-3.ensures.shape (search rules) ∙ ap₂ with_rule two third_is in
    IfOk-weaker c.arg-4.result _ _ (λ command added. added.shape (search rules) ∙ ap₂ with_rule three property_is) c.arg-4.ensures

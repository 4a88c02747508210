use Rattle.std.proofs.Common.{sym, ap, ◌∙◌}
use Rattle.std.specs.Option.{option_map}
use Rattle.moxi_terms.specs.Tree.{PlainFunction}
use Rattle.moxi_terms.specs.Scopes.{function_now}
use Rattle.moxi_term_print.proofs.NumberLaws.{name_or_none, name_found}
use Rattle.moxi_term_print.proofs.named.function_name.Goals as goal

pub returns-in-None : goal.returns-in-None
returns-in-None c = ap name_or_none (sym (ap (λ o. option_map (λ (f : PlainFunction). f.name) (function_now o)) c.in-None.is) ∙ ap (option_map (λ (f : PlainFunction). f.name)) c.function.ensures) ∙ sym (name_found (λ (f : PlainFunction). f.name) c.args.scope.now.functions c.args.n)

pub returns-in-Some : goal.returns-in-Some
returns-in-Some c = c.bytes.ensures ∙ ap name_or_none (sym (ap (λ o. option_map (λ (f : PlainFunction). f.name) (function_now o)) c.in-Some.is) ∙ ap (option_map (λ (f : PlainFunction). f.name)) c.function.ensures) ∙ sym (name_found (λ (f : PlainFunction). f.name) c.args.scope.now.functions c.args.n)

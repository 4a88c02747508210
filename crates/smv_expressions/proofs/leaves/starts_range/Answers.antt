use Rattle.std.proofs.Common.{◌∙◌, sym, ap}
use Rattle.smv_text.specs.declared.token.TokenKind.TheVariants as kind
use Rattle.smv_grammar.specs.Reading.{starts_range}
use Rattle.smv_grammar.proofs.First.{starts_range-number, starts_range-minus}
use Rattle.smv_expressions.proofs.leaves.starts_range.Goals as goal

pub returns-in-Number : goal.returns-in-Number
returns-in-Number c = c.starts_with_dots.ensures ∙ sym (ap starts_range c.in-Some.ensures.cases.0 ∙ starts_range-number c.in-Some.token.now c.in-Some.rest.now _ c.in-Number.is)

pub returns-in-Minus : goal.returns-in-Minus
returns-in-Minus c = c.starts_with_number_and_dots.ensures ∙ sym (ap starts_range c.in-Some.ensures.cases.0 ∙ starts_range-minus c.in-Some.token.now c.in-Some.rest.now (c.in-Sign.is ∙ ap kind.Sign c.in-Minus.is))

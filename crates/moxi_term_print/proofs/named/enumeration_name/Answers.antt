use Rattle.std.proofs.Common.{sym, ap, ◌∙◌}
use Rattle.moxi_terms.specs.declared.term.Enumeration.{Enumeration}
use Rattle.moxi_terms.specs.Scopes.{enumeration_now}
use Rattle.moxi_term_print.proofs.NumberLaws.{name_or_none, name_found}
use Rattle.moxi_term_print.proofs.named.enumeration_name.Goals as goal

pub returns-in-None : goal.returns-in-None
returns-in-None c = ap name_or_none (sym (ap enumeration_now c.in-None.is) ∙ c.enumeration.ensures) ∙ sym (name_found (λ (e : Enumeration). e.name) c.args.scope.now.enumerations c.args.n)

pub returns-in-Some : goal.returns-in-Some
returns-in-Some c = c.bytes.ensures ∙ ap name_or_none (sym (ap enumeration_now c.in-Some.is) ∙ c.enumeration.ensures) ∙ sym (name_found (λ (e : Enumeration). e.name) c.args.scope.now.enumerations c.args.n)

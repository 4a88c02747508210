use Rattle.std.proofs.Common.{sym, ap, ◌∙◌}
use Rattle.smv_grammar.proofs.Models.{one_list}
use Rattle.smv_grammar.proofs.model_laws.one_source.Goals as goal

pub returns : goal.returns
returns c end xs s t d e = ap (λ ms. record { modules = ms; end = s.end }) (one_list xs s.modules t.modules d.0 e.0) ∙ ap (λ z. record { modules = t.modules; end = z }) (d.1 ∙ sym e.1)

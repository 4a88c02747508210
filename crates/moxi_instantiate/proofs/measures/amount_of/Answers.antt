use Rattle.std.proofs.Common.{◌∙◌, ap}
use Rattle.moxi_instantiate.specs.Counting.{capped, known}
use Rattle.moxi_instantiate.proofs.measures.amount_of.Goals as goal

pub returns-clause-value : goal.returns-clause-value
returns-clause-value c =
    c.known.ensures.value ∙ ap (λ xs. capped (known xs c.args.script.now.check.system)) c.deref.ensures.value ∙ c.in_ok-counts.ensures c.args.script.now.check.system c.requires.there

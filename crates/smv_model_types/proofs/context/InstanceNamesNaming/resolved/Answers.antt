use Rattle.std.proofs.Common.{◌∙◌}
use Rattle.smv_model_types.proofs.KeptLemmas.{if_map}
use Rattle.smv_model_types.proofs.context.InstanceNamesNaming.resolved.Goals as goal

pub returns-clause-named : goal.returns-clause-named
returns-clause-named c = if_map c.resolved.result (λ r h. h ∙ c.args.self.now.context.now.right c.args.self.now.instance c.args.path.now) c.resolved.ensures.named

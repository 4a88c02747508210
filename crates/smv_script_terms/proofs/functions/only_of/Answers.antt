use Rattle.std.proofs.Common.{◌∙◌}
use Rattle.smv_script_terms.proofs.TreeLists.{not_only}
use Rattle.smv_script_terms.proofs.functions.only_of.Goals as goal

pub returns : goal.returns
returns c = not_only c.args.terms.items (λ h. c.if-len-eq1.false (c.len.ensures ∙ c.args.terms.ok.0 ∙ h))

use Rattle.std.proofs.Common.{◌<◌, ◌∙◌, subst}
use Rattle.smv_script_terms.proofs.TreeLists.{several_are}
use Rattle.smv_script_terms.proofs.operators.several.Goals as goal

pub returns-then-len-gt1 : goal.returns-then-len-gt1
returns-then-len-gt1 c = several_are c.args.op c.args.empty c.args.terms (subst (λ n. 1 < n) (c.len.ensures ∙ c.args.terms.ok.0) c.if-len-gt1.true)

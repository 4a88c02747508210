use Rattle.std.proofs.Common.{sym, ◌∙◌}
use Rattle.moxi_terms.specs.View.{plain}
use Rattle.smv_script_terms.proofs.TreeLists.{no_pair, pair_is}
use Rattle.smv_script_terms.proofs.Translated.{ok_same}
use Rattle.smv_script_terms.proofs.functions.of_pair.Goals as goal

pub returns-then-len-eq2 : goal.returns-then-len-eq2
returns-then-len-eq2 c = ok_same plain c.bound_pair.result _ _ (pair_is c.args.k c.args.lesser c.args.terms.items (sym (c.len.ensures ∙ c.args.terms.ok.0) ∙ c.if-len-eq2.true)) c.bound_pair.ensures

pub returns-else-len-eq2 : goal.returns-else-len-eq2
returns-else-len-eq2 c = c.nothing.ensures ∙ no_pair c.args.k c.args.lesser c.args.terms.items (λ h. c.if-len-eq2.false (c.len.ensures ∙ c.args.terms.ok.0 ∙ h))

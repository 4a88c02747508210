use Rattle.std.proofs.Common.{◌++◌, ◌∙◌, ap, map, option_to_list}
use Rattle.moxi_terms.specs.View.{plain}
use Rattle.smv_script.specs.Operators.{counted_term}
use Rattle.smv_script_terms.proofs.TreeLists.{term_taken}
use Rattle.smv_script_terms.proofs.functions.counted_terms.Goals as goal

pub terms-preserved : goal.terms-preserved
terms-preserved c =
    term_taken (counted_term c.args.width) c.terms.all.items c.push.new.self.items c.terms.terms.items c.pop.new.self.items c.in-Some.a c.in_ok-t.t (map (counted_term c.args.width) (map plain c.args.terms.items))
    (c.pop.ensures.items ∙ ap (λ o. c.pop.new.self.items ++ option_to_list o) c.in-Some.is) c.in_ok-push.ensures.items c.in_ok-t.ensures c.terms.invariant

use Rattle.std.proofs.Common.{◌∙◌, ap, map}
use Rattle.moxi_terms.specs.Tree.{trees_of}
use Rattle.moxi_terms.specs.View.{plain}
use Rattle.smv_script.specs.Operators.{sum_term}
use Rattle.smv_script_terms.proofs.TreeLists.{counted_are, sum_is}
use Rattle.smv_script_terms.proofs.functions.counted.Goals as goal

pub returns : goal.returns
returns c =
    c.several.ensures ∙ sum_is (trees_of (map plain c.in_ok-all.all.items)) ∙ ap (λ ts. sum_term (trees_of ts)) c.in_ok-all.ensures ∙ ap sum_term (counted_are c.args.width (map plain c.args.terms.items))

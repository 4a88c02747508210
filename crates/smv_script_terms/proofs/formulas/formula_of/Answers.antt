use Rattle.std.proofs.Common.{◌∙◌, ap, map}
use Rattle.moxi_terms.specs.View.{plain}
use Rattle.smv_script_terms.proofs.Formed.{all_is}
use Rattle.smv_script_terms.proofs.formulas.formula_of.Goals as goal
use Rattle.moxi_terms.specs.Applications.{all_term}

pub returns : goal.returns
returns c = c.several.ensures ∙ all_is (map plain c.in_ok-parts.parts.items) ∙ ap all_term c.in_ok-parts.ensures

use Rattle.std.specs.Prelude.{[]}
use Rattle.moxi_scripts.proofs.WholeGrowth.{grows_is}
use Rattle.moxi_scripts.proofs.WholeLaw.{spelled_whole}
use Rattle.moxi_scripts.proofs.whole_laws.spelled_scripts_are_valid.Goals as goal

pub returns : goal.returns
returns c =
    spelled_whole c.read_sorts_are_of_the_scope.ensures c.read_terms_have_sorts.ensures.forms
    (λ x vars t k h. let r = c.read_terms_are_well_scoped.ensures x [] vars [] t k tt h in (r.sort, r.known, r.stands))
    (λ x s g t sort h. c.terms_stay_well_scoped.ensures.terms x [] t sort s h (grows_is x.scope s g))

use Rattle.smv_script_laws.proofs.SortLaws.{terms_are_well_scoped_law}
use Rattle.smv_script_laws.proofs.sort_laws.terms_are_well_scoped.Goals as goal

pub returns : goal.returns
returns c = terms_are_well_scoped_law

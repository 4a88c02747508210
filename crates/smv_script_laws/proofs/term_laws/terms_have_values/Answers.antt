use Rattle.smv_script_laws.proofs.ValueLaws.{terms_have_values_law}
use Rattle.smv_script_laws.proofs.term_laws.terms_have_values.Goals as goal

pub returns : goal.returns
returns c = terms_have_values_law

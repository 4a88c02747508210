use Rattle.smv_laws.proofs.Passing.{refused_have_no_type_law}
use Rattle.smv_laws.proofs.orders.refused_have_no_type.Goals as goal

pub returns : goal.returns
returns c = refused_have_no_type_law

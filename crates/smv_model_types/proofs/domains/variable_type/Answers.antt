use Rattle.smv_text.specs.View.{plain_domain}
use Rattle.smv_model_types.proofs.DomainLemmas.{untyped}
use Rattle.smv_model_types.proofs.domains.variable_type.Goals as goal

pub returns-in-Err : goal.returns-in-Err
returns-in-Err c = untyped (plain_domain c.args.domain.now) c.in-Err.field-0 c.in-Err.ensures

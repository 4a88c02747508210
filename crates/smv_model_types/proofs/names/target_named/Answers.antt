use Rattle.std.proofs.Common.{map, subst}
use Rattle.smv_text.specs.View.{plain_domain}
use Rattle.smv_instances.specs.View.{instance_plain, Declares}
use Rattle.smv_model_types.proofs.names.target_named.Goals as goal

pub variable-requires : goal.variable-requires
variable-requires c n there =
    let t = map instance_plain c.args.model.now.table.now in
    c.args.model.now.enumerated c.in-Variable.i c.in-Variable.x.now n there c.in-Variable.kind (plain_domain c.in-Variable.domain.now) (subst (Declares t) c.in-Variable.is c.requires.declared)

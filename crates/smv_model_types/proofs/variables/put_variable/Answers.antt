use Rattle.std.proofs.Common.{map, sym, ap, ◌∙◌}
use Rattle.smv_text.specs.View.{plain_domain}
use Rattle.smv_instances.specs.View.{instance_plain, local_plain}
use Rattle.smv_model_types.proofs.KeptLemmas.{ok_map}
use Rattle.smv_model_types.proofs.Stored.{enumeration_more}
use Rattle.smv_model_types.proofs.variables.put_variable.Goals as goal

pub returns-in-Variable : goal.returns-in-Variable
returns-in-Variable c =
    let t = map instance_plain c.args.table.now in
    ok_map c.add_row_in.result
    (λ put. enumeration_more t c.args.enumerations.now c.add_row_in.new.map c.args.i c.args.x.now c.variable_named.result c.in-Variable.kind (plain_domain c.in-Variable.domain.now)
    (sym c.local.ensures ∙ ap local_plain c.in-Variable.is) c.variable_named.ensures put c.requires) c.add_row_in.ensures

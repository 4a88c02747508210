use Rattle.std.proofs.Common.{map, sym, ap, ◌∙◌}
use Rattle.smv_instances.specs.View.{instance_plain, local_plain}
use Rattle.smv_instances.proofs.LeadLemmas.{child_reached}
use Rattle.smv_instances.proofs.leads.instance_named.Goals as goal

pub returns-in-Instance : goal.returns-in-Instance
returns-in-Instance c =
    child_reached (map instance_plain c.args.parts.now) c.args.i c.args.x.now _ (ap local_plain (sym c.in-Instance.is) ∙ c.requires.known) c.child.ensures

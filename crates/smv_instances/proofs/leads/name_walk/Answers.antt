use Rattle.std.proofs.Common.{map, ◌∙◌}
use Rattle.smv_meaning.specs.Names.{look}
use Rattle.smv_instances.specs.View.{instance_plain}
use Rattle.smv_instances.proofs.LeadLemmas.{one_walked, one_ends}
use Rattle.smv_instances.proofs.leads.name_walk.Goals as goal

pub returns-in-Some : goal.returns-in-Some
returns-in-Some c = (one_ends (map instance_plain c.args.parts.now) c.args.i c.args.x.now c.in-Some.lead c.in-Some.ensures.0, c.in-Some.ensures.1, c.in-Some.ensures.2)

pub returns-in-None : goal.returns-in-None
returns-in-None c = (c.in-None.ensures, λ n e. one_walked (look (map instance_plain c.args.parts.now) n) c.args.i c.args.x.now ∙ e)

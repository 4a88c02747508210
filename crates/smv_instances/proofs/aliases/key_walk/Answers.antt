use Rattle.std.proofs.Common.{map, sym}
use Rattle.smv_instances.specs.View.{instance_plain}
use Rattle.smv_instances.proofs.LeadLemmas.{walk_key}
use Rattle.smv_instances.proofs.aliases.key_walk.Goals as goal

pub returns-in-Alias : goal.returns-in-Alias
returns-in-Alias c =
    walk_key (map instance_plain c.args.parts.now) c.args.leads.now c.args.key.instance c.args.key.name.now c.in-Alias.j c.in-Alias.path.now c.path_walk.result c.in-Alias.ensures (sym c.in-None.ensures) c.path_walk.ensures

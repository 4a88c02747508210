use Rattle.moxi_to_btor.proofs.Known.{few_known, system_known}
use Rattle.moxi_to_btor.proofs.system.system_is_known.Goals as goal

pub returns-clause-known : goal.returns-clause-known
returns-clause-known c = system_known c.args.system.now c.is_sorted.ensures c.is_within_limits.ensures.size

pub returns-clause-few : goal.returns-clause-few
returns-clause-few c = few_known c.args.system.now c.is_sorted.ensures (system_known c.args.system.now c.is_sorted.ensures c.is_within_limits.ensures.size)

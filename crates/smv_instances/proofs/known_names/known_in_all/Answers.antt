use Rattle.std.proofs.Common.{length, refl, arith}
use Rattle.smv_instances.proofs.KnownLemmas.{knows_more, not_yet}
use Rattle.smv_instances.proofs.known_names.known_in_all.Goals as goal

pub put_instance-requires : goal.put_instance-requires
put_instance-requires c = not_yet c.args.table.now c.loop-i.i (length c.args.table.now) c.loop-i.known refl (omega arith) c.loop-i.invariant

pub loop-i-preserved : goal.loop-i-preserved
loop-i-preserved c =
    knows_more c.args.table.now c.loop-i.i (length c.args.table.now) c.index-table-i.result c.loop-i.known c.put_instance.new.known refl (omega arith) c.index-table-i.is c.loop-i.invariant c.in_ok-put_instance.ensures

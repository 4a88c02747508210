use Rattle.std.proofs.Common.{arith}
use Rattle.smv_instances.proofs.LastLemmas.{places_more}
use Rattle.smv_instances.proofs.modules.ModuleTable.of.Goals as goal

pub loop-k-preserved : goal.loop-k-preserved
loop-k-preserved c = record {
  within = omega (arith, c.loop-k.invariant.within);
  finds = places_more c.args.modules.now c.loop-k.k c.at.result.now c.bytes.result.now c.loop-k.places c.add_row.new.map (omega (arith, c.loop-k-test.true)) c.loop-k.invariant.within c.at.ensures c.bytes.ensures c.loop-k.invariant.finds c.in_ok-add_row.ensures;
}

use Rattle.std.proofs.Common.{arith}
use Rattle.smv_instances.proofs.LastLemmas.{items_more}
use Rattle.smv_instances.proofs.known_names.put_items.Goals as goal

pub loop-k-preserved : goal.loop-k-preserved
loop-k-preserved c = record {
  within = omega (arith, c.loop-k.invariant.within);
  has = items_more c.args.i c.args.kind c.args.items.now c.loop-k.k c.at-item.result.now c.bytes.result.now c.domain.result c.args.known.now c.loop-k.known c.add_row_in.new.map (omega (arith, c.loop-k-test.true)) c.loop-k.invariant.within c.at-item.ensures c.bytes.ensures c.domain.ensures c.loop-k.invariant.has c.in_ok-add_row_in.ensures;
}

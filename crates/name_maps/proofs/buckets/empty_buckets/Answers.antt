use Rattle.std.proofs.Common.{arith}
use Rattle.name_maps.proofs.RowLemmas.{still_empty}
use Rattle.name_maps.proofs.buckets.empty_buckets.Goals as goal

pub loop-preserved : goal.loop-preserved
loop-preserved g c = record {
  long = omega (arith, c.loop.invariant.long, c.in_ok-push.ensures.len);
  empty = still_empty c.loop.list.items c.push.new.self.items c.empty_bucket.result c.in_ok-push.ensures.items c.empty_bucket.ensures c.loop.invariant.empty;
}

use Rattle.std.proofs.Common.{refl, arith}
use Rattle.smv_instances.proofs.LastLemmas.{definitions_more}
use Rattle.smv_instances.proofs.known_names.put_definitions.Goals as goal

pub loop-k-preserved : goal.loop-k-preserved
loop-k-preserved c = record {
  within = omega (arith, c.loop-k.invariant.within);
  has = definitions_more c.args.i c.args.definitions.now c.loop-k.k c.at-definition.result.now c.bytes.result.now _ c.args.known.now c.loop-k.known c.add_row_in.new.map (omega (arith, c.loop-k-test.true)) c.loop-k.invariant.within c.at-definition.ensures c.bytes.ensures refl c.loop-k.invariant.has c.in_ok-add_row_in.ensures;
}

use Rattle.std.proofs.Common.{◌==◌, arith}
use Rattle.smv_instances.specs.NameMap.{known_at}
use Rattle.smv_instances.proofs.KnownLemmas.{parameters_past}
use Rattle.smv_instances.proofs.LastLemmas.{parameters_more, chosen}
use Rattle.smv_instances.proofs.known_names.put_parameters.Goals as goal

pub loop-k-init : goal.loop-k-init
loop-k-init c = record {
  within = omega (arith, c.min-k.ensures);
  within_actuals = omega (arith, c.min-k.ensures);
  has = λ j x. chosen (c.args.i == j) (known_at c.args.known.now j x) _ (parameters_past c.args.parent c.min-k.result c.args.parameters.now c.args.actuals.now x (known_at c.args.known.now j x) (omega (arith, c.min-k.ensures)));
}

pub loop-k-preserved : goal.loop-k-preserved
loop-k-preserved c = record {
  within = omega (arith, c.loop-k.invariant.within);
  within_actuals = omega (arith, c.loop-k.invariant.within_actuals);
  has = parameters_more c.args.i c.args.parent c.args.parameters.now c.args.actuals.now c.loop-k.k c.at.result.now c.index-actuals-k.result c.bytes.result.now c.actual.result c.args.known.now c.loop-k.known c.add_row_in.new.map (omega (arith, c.loop-k-test.true)) c.loop-k.invariant.within c.loop-k.invariant.within_actuals c.at.ensures c.index-actuals-k.is c.bytes.ensures c.actual.ensures c.loop-k.invariant.has c.in_ok-add_row_in.ensures;
}

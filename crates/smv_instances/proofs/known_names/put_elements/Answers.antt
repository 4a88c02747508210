use Rattle.std.proofs.Common.{map, ap, arith}
use Rattle.smv_text.specs.View.{plain_item, plain_definition, plain_element}
use Rattle.smv_instances.proofs.LastLemmas.{vars_more, defines_more}
use Rattle.smv_instances.proofs.known_names.put_elements.Goals as goal

pub loop-k-preserved-in-Continue-1 : goal.loop-k-preserved-in-Continue-1
loop-k-preserved-in-Continue-1 c = record {
  within = omega (arith, c.loop-k.invariant.within);
  has = vars_more c.args.i c.args.elements.now c.loop-k.k c.at.result.now c.in-Vars.kind (map plain_item c.in-Vars.items) c.args.known.now c.loop-k.known c.put_items.new.known (omega (arith, c.loop-k-test.true)) c.loop-k.invariant.within c.at.ensures (ap plain_element c.in-Vars.is) c.loop-k.invariant.has c.in_ok-put_items-in-Vars.ensures;
}

pub loop-k-preserved-in-Continue-branch-2 : goal.loop-k-preserved-in-Continue-branch-2
loop-k-preserved-in-Continue-branch-2 c = record {
  within = omega (arith, c.loop-k.invariant.within);
  has = defines_more c.args.i c.args.elements.now c.loop-k.k c.at.result.now (map plain_definition c.in-Defines.definitions) c.args.known.now c.loop-k.known c.put_definitions.new.known (omega (arith, c.loop-k-test.true)) c.loop-k.invariant.within c.at.ensures (ap plain_element c.in-Defines.is) c.loop-k.invariant.has c.in_ok-put_definitions-in-Defines.ensures;
}

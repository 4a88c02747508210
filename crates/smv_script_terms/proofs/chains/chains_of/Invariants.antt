use Rattle.std.proofs.Common.{◌≤◌, length}
use Rattle.smv_script_terms.specs.Chains.{AreChained}
use Rattle.smv_script_terms.proofs.chains.chains_of.Given as goal

abbrev pub invariant-places : goal.invariant-places
invariant-places l = record {
  within : l.place ≤ length l.fn.numbers.items;
  chained : AreChained l.fn.numbers.items l.count l.place l.firsts.items l.nexts.items;
}

abbrev pub decreases-places : goal.decreases-places
decreases-places l = l.place

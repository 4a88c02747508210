use Rattle.std.proofs.Common.{◌≡◌, length}
use Rattle.moxi_to_btor.specs.TermPutting.{CanImply, implied_onto}
use Rattle.moxi_to_btor.proofs.chains.put_implied_onto.Given as goal

abbrev pub invariant-loop-p : goal.invariant-loop-p
invariant-loop-p l = record {
  told : implied_onto l.rest (l.builder, l.chain) ≡ implied_onto l.before (l.fn.builder, l.last);
  can : CanImply l.rest (l.builder, l.chain);
}

abbrev pub decreases-loop-p : goal.decreases-loop-p
decreases-loop-p l = length l.rest

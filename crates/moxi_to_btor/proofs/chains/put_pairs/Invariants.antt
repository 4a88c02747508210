use Rattle.std.proofs.Common.{◌≡◌, drop}
use Rattle.moxi_lines.specs.TermLines.{paired_lines}
use Rattle.moxi_to_btor.specs.TermPutting.{CanPair}
use Rattle.moxi_to_btor.proofs.Folding.{put_with}
use Rattle.moxi_to_btor.proofs.chains.put_pairs.Given as goal

abbrev pub invariant-loop-p : goal.invariant-loop-p
invariant-loop-p l = record {
  told : put_with l.places.items (paired_lines l.op l.builder (drop l.p-index l.pairs)) ≡ paired_lines l.op l.fn.builder l.pairs;
  can : CanPair l.op l.builder (drop l.p-index l.pairs);
}
